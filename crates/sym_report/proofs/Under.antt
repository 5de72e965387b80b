-- The rows of groups belong under the names of their report.
use Rattle.std.proofs.Common.{◌≡◌, ◌∙◌, ℕ, List, [], ◌∷◌, length, refl, sym, arith}
use Rattle.std.proofs.lemmas.List.{length-map}
use Rattle.std.proofs.lemmas.Slice.Zip.{AllZip-long}
use Rattle.std.specs.List.{All, zip}
use Rattle.sym_base.specs.declared.values.value.Key.{Key}
use Rattle.sym_base.specs.declared.values.state.Outcome.{Outcome}
use Rattle.sym_base.specs.declared.values.state.Outcome.TheVariants.{Going, Ended}
use Rattle.sym_base.specs.declared.values.state.FaultKind.{FaultKind}
use Rattle.sym_base.specs.declared.values.state.FaultKind.TheVariants as fault
use Rattle.sym_base.specs.Trees.{ScriptTree}
use Rattle.sym_check.proofs.AcceptedPlans.{each_long}
use Rattle.sym_check.specs.Meaning.Validity.{IsKey, IsOfField}
use Rattle.sym_check.specs.Plan.ScriptPlans.{ScriptPlan}
use Rattle.sym_check.specs.Rules.Declarations.{IsGroupField}
use Rattle.sym_check.specs.Rules.Scripts.{IsAccepted}
use Rattle.sym_report.specs.Forms.{HasColumns, IsUnder}
use Rattle.sym_report.specs.ReportRows.{heads_of, row_of, body_of, fault_body, key_columns}

-- The group line names as many fields as tell groups apart.
grouped : (t : ScriptTree) (p : ScriptPlan) → IsAccepted t p → length p.group ≡ length t.group
grouped t p accepted =
    let d = accepted.has_plan.declared in
    each_long (IsGroupField d.field_scope) [] d.fields.group.named 0 t.group p.group
    d.fields.group.each

zip_long :
    {A B : Type 0} (xs : List A) (ys : List B) → length ys ≡ length xs →
    length (zip xs ys) ≡ length xs
zip_long [] ys same = refl
zip_long (x ∷ xs) [] same = same
zip_long (x ∷ xs) (y ∷ ys) same =
    let rest : length ys ≡ length xs = omega (arith, same) in
    omega (arith, zip_long xs ys rest)

keys_long :
    (t : ScriptTree) (p : ScriptPlan) (key : Key) → IsAccepted t p → IsKey p key →
    length (key_columns p key) ≡ length (heads_of t p).keys
keys_long t p key accepted is_key =
    let values = AllZip-long (IsOfField p) p.group key.values is_key in
    length-map (zip p.group key.values) _
    ∙ zip_long p.group key.values values
    ∙ grouped t p accepted
    ∙ sym (length-map t.group _)

fault_under :
    (t : ScriptTree) (p : ScriptPlan) (kind : FaultKind) (record_no : ℕ) →
    HasColumns (heads_of t p).columns (fault_body t kind record_no)
fault_under t p (fault.Over cell) record_no = tt
fault_under t p fault.Arith record_no = tt

body_under :
    (t : ScriptTree) (p : ScriptPlan) (outcome : Outcome) →
    HasColumns (heads_of t p).columns (body_of t p outcome)
body_under t p (Going state) = length-map p.columns _ ∙ sym (length-map p.columns _)
body_under t p (Ended ended) = fault_under t p ended.kind ended.no

pub rows_under :
    (t : ScriptTree) (p : ScriptPlan) (groups : List (Key × Outcome)) → IsAccepted t p →
    All (λ pair. IsKey p pair.0) groups →
    All (λ pair. IsUnder (heads_of t p) (row_of t p pair)) groups
rows_under t p groups accepted keys i d within = record {
  keys = keys_long t p _ accepted (keys i d within);
  columns = body_under t p _;
}
