use Rattle.std.proofs.Common.{◌≡◌, ◌∙◌, List, None, sym, subst}
use Rattle.std.proofs.lemmas.Result.{IfOk-weaker}
use Rattle.std.specs.FinMap.{get}
use Rattle.std.specs.List.{Any}
use Rattle.std.specs.Option.{MatchOption}
use Rattle.std.specs.Prelude.{OnErr}
use Rattle.sym_pred.specs.declared.literal.Literal.{Literal}
use Rattle.sym_pred.specs.Answers.{AreAgainst, AreWith}
use Rattle.sym_pred.specs.Literals.{atom_of, literals}
use Rattle.sym_pred.proofs.FactsLemmas.{literals_of_view}
use Rattle.sym_pred.proofs.WithLemmas.{met_none, met_literals, met_admits, met_nothing}
use Rattle.sym_pred.proofs.facts.Facts.met_with.Goals as goal

pub returns-clause-none : goal.returns-clause-none
returns-clause-none c =
    let xs : List Literal = c.as_slice.result.now in
    let view : xs ≡ literals c.args.other.now = c.as_slice.ensures ∙ sym (literals_of_view _ _ c.other.invariant c.other.view_is) in
    IfOk-weaker c.with_all.result (λ found. MatchOption found (AreAgainst c.args.self xs) (AreWith c.args.self xs)) _ (met_none c.args.self c.args.other.now xs view) c.with_all.ensures.found

pub returns-clause-literals : goal.returns-clause-literals
returns-clause-literals c =
    let xs : List Literal = c.as_slice.result.now in
    let view : xs ≡ literals c.args.other.now = c.as_slice.ensures ∙ sym (literals_of_view _ _ c.other.invariant c.other.view_is) in
    IfOk-weaker c.with_all.result (λ found. MatchOption found (AreAgainst c.args.self xs) (AreWith c.args.self xs)) _ (met_literals c.args.self c.args.other.now xs view) c.with_all.ensures.found

pub returns-clause-admits : goal.returns-clause-admits
returns-clause-admits c =
    let xs : List Literal = c.as_slice.result.now in
    let view : xs ≡ literals c.args.other.now = c.as_slice.ensures ∙ sym (literals_of_view _ _ c.other.invariant c.other.view_is) in
    IfOk-weaker c.with_all.result (λ found. MatchOption found (AreAgainst c.args.self xs) (AreWith c.args.self xs)) _ (met_admits c.args.self c.args.other.now xs view) c.with_all.ensures.found

pub returns-clause-nothing : goal.returns-clause-nothing
returns-clause-nothing c =
    let xs : List Literal = c.as_slice.result.now in
    let view : xs ≡ literals c.args.other.now = c.as_slice.ensures ∙ sym (literals_of_view _ _ c.other.invariant c.other.view_is) in
    IfOk-weaker c.with_all.result (λ found. MatchOption found (AreAgainst c.args.self xs) (AreWith c.args.self xs)) _ (met_nothing c.args.self c.args.other.now xs view) c.with_all.ensures.found

pub returns-clause-memory : goal.returns-clause-memory
returns-clause-memory c =
    let xs : List Literal = c.as_slice.result.now in
    let view : xs ≡ literals c.args.other.now = c.as_slice.ensures ∙ sym (literals_of_view _ _ c.other.invariant c.other.view_is) in
    subst (λ (ys : List Literal). OnErr c.with_all.result (Any (λ (x : Literal). get c.args.self (atom_of x) ≡ None) ys)) view c.with_all.ensures.memory
