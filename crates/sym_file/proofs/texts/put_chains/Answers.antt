use Rattle.std.proofs.Common.{◌≡◌, ◌∙◌, [], List, Result, subst, sym}
use Rattle.std.proofs.lemmas.List.{nil_from_length}
use Rattle.std.specs.Vec.Iter.{into_iter_items}
use Rattle.sym_run.specs.Chained.{Chained}
use Rattle.sym_file.specs.declared.saved_err.SavedErr.{SavedErr}
use Rattle.sym_file.proofs.JoinedPlaces.{ArePut, put_all, put_on}
use Rattle.sym_file.proofs.texts.put_chains.Goals as goal

pub chains-preserved : goal.chains-preserved
chains-preserved c =
    put_on c.args.groups c.args.made.items c.chains.yielded (into_iter_items c.chains.chain-iterator) (into_iter_items c.next.new.self) c.chains.keys c.next-in-chains.new.self c.chains.joined c.in-Some-2.more
    c.in-Some.chain c.in_ok-chain.field-0 (c.in-Some-next.key, c.in-Some-next._places) c.chains.invariant
    c.in-Some.ensures.steps.0 c.in_ok-chain.was c.in-Some-next.ensures.steps (sym c.in-Some-2.is ∙ c.in_ok-more.ensures)

pub returns : goal.returns
returns c = λ p limit spans are.
    let groups = c.args.groups in
    let made = c.args.made.items in
    let none : into_iter_items c.chains.chain-iterator ≡ [] = nil_from_length _ (sym c.chains.chain-iterator.rest.ok.0 ∙ c.in-None.ensures.steps.0) in
    put_all groups made c.chains.yielded c.chains.keys c.chains.joined
    (subst (λ (left : List (Result Chained SavedErr)). ArePut groups made c.chains.yielded left c.chains.keys c.chains.joined) none c.chains.invariant)
    (sym c.args.made.ok.0 ∙ c.requires) p limit spans are
