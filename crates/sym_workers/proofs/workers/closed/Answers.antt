use Rattle.std.proofs.Common.{◌≡◌, ◌<◌, List, [], ◌∷◌, All, length, true, false, true≢false, sym, ◌∙◌, arith}
use Rattle.sym_board.specs.Passes.{has_ended}
use Rattle.sym_workers.proofs.workers.closed.Goals as goal

-- Two facts that exclude each other don't both hold of all elements, if there is one.
not_both : {X : Type 0} (F G : X → Type 0) → ((x : X) → F x → G x → ⊥) → (xs : List X) → 0 < length xs → All F xs → All G xs → ⊥
not_both F G never [] there f g = absurd (omega arith)
not_both F G never (x ∷ xs) there f g = never x (f 0 x (omega arith)) (g 0 x (omega arith))

pub returns-in-None-clause-none : goal.returns-in-None-clause-none
returns-in-None-clause-none g c = λ done.
    let none = c.in-None.ensures.none (λ k d near. (done k d near).0) c.requires.all in
    let some_pass = c.args.board.sizes.2 in
    let all = c.requires.all in
    not_both (λ p. has_ended p ≡ false) (λ p. has_ended p ≡ true) (λ p f t. true≢false (sym t ∙ f)) c.args.passes.items (omega arith) none.1 (λ k d near. (done k d near).1)
