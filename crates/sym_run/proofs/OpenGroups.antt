-- Groups whose chains are opened as they stand.
use Rattle.std.proofs.Common.{◌≡◌, ◌∙◌, ap, sym, refl, subst, ℕ, List, [], ◌∷◌, map}
use Rattle.std.proofs.lemmas.List.Elements.{All-map}
use Rattle.std.specs.List.{IsDistinct}
use Rattle.std.specs.Map.{keys_of}
use Rattle.sym_base.specs.declared.values.value.Key.{Key}
use Rattle.sym_base.specs.declared.values.record.Record.{Record}
use Rattle.sym_check.specs.Meaning.Groups.{is_key, records_of}
use Rattle.sym_check.specs.Plan.ScriptPlans.{ScriptPlan}
use Rattle.sym_plain.specs.Pairs.{HaveDistinctKeys}
use Rattle.sym_run.specs.Chained.{Chained}
use Rattle.sym_run.specs.Opened.{KeepsNone, OpenFits, OpenGroupsAreExtended, OpenGroupsAreTight, OpenGroupsFit, OpenGroupsKeepNone, OpenGroupsStandFor, OpenIsExtended, OpenIsTight, OpenStandsFor, opened_group}
use Rattle.sym_run.specs.Runs.{AreClosed, AreTight, GroupsAreExtended, GroupsFit, GroupsStandFor}
use Rattle.sym_run.specs.declared.opened.Open.{Open}

opened_keys : (groups : List (Key × Chained)) → keys_of (map opened_group groups) ≡ keys_of groups
opened_keys [] = refl
opened_keys (group ∷ groups) = ap (λ (ks : List Key). group.0 ∷ ks) (opened_keys groups)

pub opened_distinct : (groups : List (Key × Chained)) → HaveDistinctKeys groups → HaveDistinctKeys (map opened_group groups)
opened_distinct groups h = subst (IsDistinct is_key) (sym (opened_keys groups)) h

pub opened_fit : (p : ScriptPlan) (groups : List (Key × Chained)) → GroupsFit p groups → OpenGroupsFit p (map opened_group groups)
opened_fit p groups h = All-map (λ (group : Key × Open). OpenFits p group.1) opened_group groups h

pub opened_tight : (p : ScriptPlan) (limit : ℕ) (groups : List (Key × Chained)) → AreTight p limit groups → OpenGroupsAreTight p limit (map opened_group groups)
opened_tight p limit groups h = All-map (λ (group : Key × Open). OpenIsTight p limit group.1) opened_group groups h

pub opened_keep_none : (groups : List (Key × Chained)) → AreClosed groups → OpenGroupsKeepNone (map opened_group groups)
opened_keep_none groups h = All-map (λ (group : Key × Open). KeepsNone group.1) opened_group groups h

pub opened_stand : (p : ScriptPlan) (records : List Record) (groups : List (Key × Chained)) → GroupsStandFor p records groups → OpenGroupsStandFor p records (map opened_group groups)
opened_stand p records groups h = record {
  keys_are = opened_keys groups ∙ h.keys_are;
  each = All-map (λ (group : Key × Open). OpenStandsFor p (records_of p group.0 records) group.1) opened_group groups h.each;
}

pub opened_extended : (p : ScriptPlan) (limit : ℕ) (records : List Record) (groups : List (Key × Chained)) → GroupsAreExtended p limit records groups → OpenGroupsAreExtended p limit records (map opened_group groups)
opened_extended p limit records groups h = record {
  keys_are = opened_keys groups ∙ h.keys_are;
  each = All-map (λ (group : Key × Open). OpenIsExtended p limit (records_of p group.0 records) group.1) opened_group groups h.each;
}
