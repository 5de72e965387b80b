use Rattle.std.proofs.Common.{◌≡◌, ◌∙◌, ◌∷◌, [], sym, subst}
use Rattle.sym_plain.proofs.Pairs.{set-put}
use Rattle.sym_plain.specs.Pairs.{put}
use Rattle.sym_run.specs.Chained.{Chained}
use Rattle.sym_run.specs.Leading.{AreAlikeBut}
use Rattle.sym_run.proofs.ClosingGroups.{has_found}
use Rattle.sym_run.proofs.TakenGroups.{alike_put}
use Rattle.sym_run.proofs.closed_groups.take_out.Goals as goal

pub returns-in-Some-clause-alike : goal.returns-in-Some-clause-alike
returns-in-Some-clause-alike c =
    let old = c.args.map.now.entries in
    let key = c.args.key.now in
    let chain : Chained = c.replace.new.dest in
    let there = sym c.in-Some.ensures.value in
    let is : (c.get_mut.follows.lender chain).entries ≡ put old key chain =
    (c.get_mut.follows.holds chain).0 ∙ set-put old key c.in-Some.chain.now chain c.in-Some.ensures.unique there in
    subst (AreAlikeBut (key ∷ []) old) (sym is) (alike_put key chain old (has_found key old c.in-Some.chain.now there))
