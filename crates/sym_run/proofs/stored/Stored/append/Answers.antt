use Rattle.std.proofs.Common.{◌∙◌, ◌≡◌, ◌==◌, ◌<◌, ◌++◌, [], ◌*◌, ℕ, Bool, zero, suc, false, ap, sym, refl, length, take, arith}
use Rattle.std.proofs.lemmas.List.{append-nil}
use Rattle.std.proofs.lemmas.Result.{err_from_is_err_and}
use Rattle.sym_run.proofs.CutRecords.{append_failed, both_kept}
use Rattle.sym_run.proofs.stored.Stored.append.Goals as goal

more_than_none : (n : ℕ) (b : Bool) → b ≡ false → b ≡ (n == 0) → 0 < n
more_than_none zero b e is = cc
more_than_none (suc n) b e is = omega arith

pub returns-in_err-append-clause-err : goal.returns-in_err-append-clause-err
returns-in_err-append-clause-err c =
    let i = c.self.inside in
    let count : c.len-count.result ≡ length i.numbers.items = omega (arith, c.len-count.ensures, i.numbers.ok.0) in
    let e = err_from_is_err_and c.from_residual.result c.from_residual.ensures.1 in
    rw e.1 (append_failed i.width c.len-count.result i.numbers.items i.numbers.items i.values.items [] c.append.new.self.items c.args.self.now c.self.invariant c.self.view_is count refl
    (c.in_err-append.ensures.items ∙ c.truncate.ensures.items ∙ sym (append-nil (take (c.len-count.result * i.width) i.values.items))))

pub returns-in_err-append-2-clause-err : goal.returns-in_err-append-2-clause-err
returns-in_err-append-2-clause-err c =
    let i = c.self.inside in
    let more = c.more.inside.values.items in
    let count : c.len-count.result ≡ length i.numbers.items = omega (arith, c.len-count.ensures, i.numbers.ok.0) in
    let e = err_from_is_err_and c.from_residual-in_err-append-2.result c.from_residual-in_err-append-2.ensures.1 in
    rw e.1 (append_failed i.width c.len-count.result i.numbers.items c.append-2.new.self.items i.values.items more c.append.new.self.items c.args.self.now c.self.invariant c.self.view_is count c.in_err-append-2.ensures.items
    (c.in_ok-append.ensures.items ∙ ap (λ vs. vs ++ more) c.truncate.ensures.items))

pub invariant_of-self-2 : goal.invariant_of-self-2
invariant_of-self-2 c =
    let left = c.self.inside in
    let right = c.more.inside in
    let some = more_than_none _ c.is_empty.result c.if-is_empty.false c.is_empty.ensures in
    let others = more_than_none _ c.is_empty-2.result c.if-is_empty-2.false c.is_empty-2.ensures in
    let count : c.len-count.result ≡ length left.numbers.items = omega (arith, c.len-count.ensures, left.numbers.ok.0) in
    (both_kept left.width right.width c.requires.0 left.numbers.items right.numbers.items c.append-2.new.self.items left.values.items right.values.items c.append.new.self.items c.args.self.now c.args.more
    c.self.invariant c.more.invariant c.self.view_is c.more.view_is c.requires.1 c.requires.2 (omega (arith, some, left.numbers.ok.0)) (omega (arith, others, right.numbers.ok.0))
    c.in_ok-append-2.ensures.items
    (c.in_ok-append.ensures.items ∙ ap (λ vs. vs ++ right.values.items) (c.truncate.ensures.items ∙ ap (λ n. take (n * left.width) left.values.items) count))).1

pub returns-clause-ok : goal.returns-clause-ok
returns-clause-ok c =
    let left = c.self.inside in
    let right = c.more.inside in
    let some = more_than_none _ c.is_empty.result c.if-is_empty.false c.is_empty.ensures in
    let others = more_than_none _ c.is_empty-2.result c.if-is_empty-2.false c.is_empty-2.ensures in
    let count : c.len-count.result ≡ length left.numbers.items = omega (arith, c.len-count.ensures, left.numbers.ok.0) in
    (both_kept left.width right.width c.requires.0 left.numbers.items right.numbers.items c.append-2.new.self.items left.values.items right.values.items c.append.new.self.items c.args.self.now c.args.more
    c.self.invariant c.more.invariant c.self.view_is c.more.view_is c.requires.1 c.requires.2 (omega (arith, some, left.numbers.ok.0)) (omega (arith, others, right.numbers.ok.0))
    c.in_ok-append-2.ensures.items
    (c.in_ok-append.ensures.items ∙ ap (λ vs. vs ++ right.values.items) (c.truncate.ensures.items ∙ ap (λ n. take (n * left.width) left.values.items) count))).0
