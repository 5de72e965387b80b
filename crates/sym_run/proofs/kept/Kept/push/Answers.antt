use Rattle.std.proofs.Common.{◌≡◌, ◌∙◌, ◌+◌, ◌++◌, ◌∷◌, [], ℕ, List, Option, Some, ap, ap₂, arith, drop, length, sym, subst, take}
use Rattle.std.proofs.lemmas.Option.{slice_get_within}
use Rattle.std.proofs.lemmas.Result.{on_ok_weaker}
use Rattle.sym_base.specs.declared.values.value.Value.{Value}
use Rattle.sym_base.specs.declared.values.value.Value.TheVariants.{Word}
use Rattle.sym_base.specs.declared.values.record.Record.{Record}
use Rattle.sym_run.specs.Keeping.{AreAsWide, HasEmpty, with_empty}
use Rattle.sym_run.proofs.EmptyWords.{less, pieces_wide, put_back, stored_wide, with_last}
use Rattle.sym_run.proofs.kept.Kept.push.Goals as goal

pub prepare-requires : goal.prepare-requires
prepare-requires c = (length c.args.rec.now.fields, subst (AreAsWide c.args.rec.now) (sym c.self.view_is) c.requires)

pub push-requires : goal.push-requires
push-requires c =
    let rec : Record = c.args.rec.now in
    let values : List Value = c.as_slice-values.result.now in
    let same : length values ≡ length rec.fields = ap length c.as_slice-values.ensures in
    let all : length values + 0 ≡ length rec.fields = omega (arith, same) in
    let wide : length values + 0 ≡ less c.prepare.new.empty (length rec.fields) = all ∙ ap (λ (place : Option ℕ). less place (length rec.fields)) (sym c.in-None.is) in
    stored_wide c.prepare.new.empty (length values + 0) c.prepare.new.stored c.args.self.now rec (c.prepare.ensures.same ∙ c.self.view_is) c.requires wide

pub beside-requires : goal.beside-requires
beside-requires c =
    let rec : Record = c.args.rec.now in
    let there : HasEmpty (Some c.in-Some.place) rec.fields = subst (λ (place : Option ℕ). HasEmpty place rec.fields) c.in-Some.is c.in_ok-prepare.ensures.there in
    let within = slice_get_within rec.fields c.in-Some.place (Word []) there in
    let same : length c.as_slice-values.result.now ≡ length rec.fields = ap length c.as_slice-values.ensures in
    omega (arith, within, same)

pub push-requires-in-Some : goal.push-requires-in-Some
push-requires-in-Some c =
    let rec : Record = c.args.rec.now in
    let values : List Value = c.as_slice-values.result.now in
    let there : HasEmpty (Some c.in-Some.place) rec.fields = subst (λ (place : Option ℕ). HasEmpty place rec.fields) c.in-Some.is c.in_ok-prepare.ensures.there in
    let within = slice_get_within rec.fields c.in-Some.place (Word []) there in
    let same : length values ≡ length rec.fields = ap length c.as_slice-values.ensures in
    let wide : length c.beside.result.0.now + length c.beside.result.1.now ≡ less c.prepare.new.empty (length rec.fields) =
    pieces_wide values c.beside.result.0.now c.beside.result.1.now c.in-Some.place (omega (arith, within, same)) c.beside.ensures.first c.beside.ensures.rest
    ∙ ap₂ less (sym c.in-Some.is) same in
    stored_wide c.prepare.new.empty (length c.beside.result.0.now + length c.beside.result.1.now) c.prepare.new.stored c.args.self.now rec (c.prepare.ensures.same ∙ c.self.view_is) c.requires wide

pub returns-in-Some-clause-ok : goal.returns-in-Some-clause-ok
returns-in-Some-clause-ok c =
    let rec : Record = c.args.rec.now in
    let place : ℕ = c.in-Some.place in
    let first : List Value = c.beside.result.0.now in
    let rest : List Value = c.beside.result.1.now in
    let there : HasEmpty (Some place) rec.fields = subst (λ (place : Option ℕ). HasEmpty place rec.fields) c.in-Some.is c.in_ok-prepare.ensures.there in
    let back : with_empty c.prepare.new.empty (first ++ rest) ≡ rec.fields =
    ap₂ with_empty c.in-Some.is
    (ap₂ (λ (a b : List Value). a ++ b) (c.beside.ensures.first ∙ ap (take place) c.as_slice-values.ensures) (c.beside.ensures.rest ∙ ap (drop (place + 1)) c.as_slice-values.ensures))
    ∙ put_back rec.fields place there in
    on_ok_weaker c.push-in-Some.result
    (λ is. with_last c.prepare.new.empty c.prepare.new.stored c.push-in-Some.new.self rec (first ++ rest) back is
    ∙ ap (λ (rs : List Record). rs ++ rec ∷ []) (c.prepare.ensures.same ∙ c.self.view_is))
    c.push-in-Some.ensures.ok
