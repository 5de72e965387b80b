-- Why groups that stand for records are those of a lawful saved run.
use Rattle.std.proofs.Common.{◌≡◌, ◌∙◌, refl, sym, ap, subst, ℕ, suc, ◌<◌, ◌≤◌, arith, List, [], ◌∷◌, ◌++◌, All, length, map, Bool, true, false, cond, ◌||◌, true≢false}
use Rattle.std.specs.List.{IsDistinct, slice_index_or}
use Rattle.std.proofs.lemmas.List.Elements.{All-nil, All-cons, All-head, All-tail, All-filter}
use Rattle.std.proofs.lemmas.Map.Views.{All-from_any}
use Rattle.std.proofs.lemmas.Option.{slice_get_within}
use Rattle.std.specs.Map.{keys_of}
use Rattle.sym_base.specs.declared.values.record.Record.{Record}
use Rattle.sym_base.specs.declared.values.state.Outcome.{Outcome}
use Rattle.sym_base.specs.declared.values.value.Key.{Key}
use Rattle.sym_check.specs.Meaning.Groups.{is_key, is_among, key_of, records_of, keys}
use Rattle.sym_check.specs.Meaning.Updates.{initial}
use Rattle.sym_check.specs.Meaning.Validity.{IsKey, IsRecord}
use Rattle.sym_check.specs.Plan.ScriptPlans.{ScriptPlan}
use Rattle.sym_check.specs.Plan.WellFormed.{IsWellFormed}
use Rattle.sym_check.proofs.GroupLaws.{keys_apart, pass_keys}
use Rattle.sym_check.proofs.Keys.{keys_equiv, among-distinct}
use Rattle.sym_check.proofs.ValidSteps.{initial_valid}
use Rattle.sym_path.specs.declared.path.Path.{Path}
use Rattle.sym_path.specs.declared.path.PathEnd.{PathEnd}
use Rattle.sym_path.specs.declared.path.PathEnd.TheVariants.{Next, Ended}
use Rattle.sym_path.specs.Standing.{EndsAmong, StandsFor}
use Rattle.sym_run.specs.Chained.{Chained}
use Rattle.sym_run.specs.Chains.{ChainStandsFor, IsClosed, SegmentsStandFor}
use Rattle.sym_run.specs.declared.saved.Saved.{Saved}
use Rattle.sym_run.specs.Runs.{AreClosed, GroupsStandFor}
use Rattle.sym_run.specs.SavedRuns.{AreNumbered, EndsWithin, IsLawfulChain, IsLawfulGroup, IsLawfulSaved, IsLawfulSegment, SavedStandsFor}
use Rattle.sym_run.proofs.KeptRecords.{closed_segments}

abbrev Chains : Type 0
Chains = List (Key × Chained)

-- ---- numbers
pub numbered_order : (first next : ℕ) (found : List Record) → AreNumbered first next found → first ≤ next
numbered_order first next [] h = omega (arith, h)
numbered_order first next (rec ∷ found) h = omega (arith, numbered_order (suc first) next found h.1)

-- The number of a record is at least `low` and below `next`.
abbrev IsIn : ℕ → ℕ → Record → Type 0
IsIn low next rec = (low ≤ rec.no) × (rec.no < next)

numbers_in : (low first next : ℕ) (found : List Record) → low ≤ first → AreNumbered first next found → All (IsIn low next) found
numbers_in low first next [] order h = All-nil (IsIn low next)
numbers_in low first next (rec ∷ found) order h =
    All-cons (IsIn low next) rec found (omega (arith, h.0), omega (arith, h.0, numbered_order (suc first) next found h.1))
    (numbers_in low (suc first) next found (omega arith) h.1)

-- ---- keys
pub unmapped : {A B : Type 0} (f : A → B) (P : B → Type 0) (xs : List A) → All P (map f xs) → All (λ x. P (f x)) xs
unmapped f P [] h = All-nil (λ x. P (f x))
unmapped f P (x ∷ xs) h = All-cons (λ y. P (f y)) x xs (All-head P (f x) (map f xs) h) (unmapped f P xs (All-tail P (f x) (map f xs) h))

some_among : (p : ScriptPlan) (key : Key) (found : List Record) → is_among key (map (key_of p) found) ≡ true → 1 ≤ length (records_of p key found)
some_among p key [] h = absurd (true≢false (sym h))
some_among p key (r ∷ rest) h = of (is_key (key_of p r) key) refl h (some_among p key rest)
  where
    of : (b : Bool) → is_key (key_of p r) key ≡ b → (is_key key (key_of p r) || is_among key (map (key_of p) rest)) ≡ true
        → (is_among key (map (key_of p) rest) ≡ true → 1 ≤ length (records_of p key rest)) → 1 ≤ length (cond b (r ∷ records_of p key rest) (records_of p key rest))
    of true e g later = omega arith
    of false e g later =
        let apart : is_key key (key_of p r) ≡ false = keys_equiv.symm key (key_of p r) ∙ e in
        later (sym (ap (λ (t : Bool). t || is_among key (map (key_of p) rest)) apart) ∙ g)

-- Each key is that of some record.
some_of : (p : ScriptPlan) (found : List Record) → All (λ key. 1 ≤ length (records_of p key found)) (keys p found)
some_of p found =
    All-from_any keys_equiv (λ key. 1 ≤ length (records_of p key found)) (keys p found)
    (λ key among. some_among p key found (sym (among-distinct key (map (key_of p) found)) ∙ among))

-- ---- lawful chains
all_first : {A : Type 0} (P : A → Type 0) (xs ys : List A) → All P (xs ++ ys) → All P xs
all_first P [] ys h = All-nil P
all_first P (x ∷ xs) ys h = All-cons P x xs (All-head P x (xs ++ ys) h) (all_first P xs ys (All-tail P x (xs ++ ys) h))

all_rest : {A : Type 0} (P : A → Type 0) (xs ys : List A) → All P (xs ++ ys) → All P ys
all_rest P [] ys h = h
all_rest P (x ∷ xs) ys h = all_rest P xs ys (All-tail P x (xs ++ ys) h)

ends_within : (first next : ℕ) (found : List Record) (e : PathEnd) → All (IsIn first next) found → EndsAmong found e → EndsWithin first next e
ends_within first next found (Next forms) all among = tt
ends_within first next found (Ended fault) all (k, rec, near, at, same) =
    let in_range : IsIn first next rec = subst (IsIn first next) at (all k rec near) in (omega (arith, same, in_range.0), omega (arith, same, in_range.1))

pub segment_lawful : (p : ScriptPlan) (first next : ℕ) (found : List Record) (paths : List Path) → IsWellFormed p → All (IsIn first next) found → StandsFor p found paths → IsLawfulSegment p first next paths
segment_lawful p first next found paths w all is =
    let only = is.exact (initial p) (initial_valid p w) in
    let near : only.index < length paths = slice_get_within paths only.index only.path only.is in
    record {
      some = omega arith;
      each = λ k d at. record {
        fits = is.fits k d at;
        fault = ends_within first next found (slice_index_or paths k d).end all (is.faults k d at);
      };
    }

segments_lawful : (p : ScriptPlan) (first next : ℕ) (found : List Record) (segments : List (List Path)) → IsWellFormed p → All (IsIn first next) found → SegmentsStandFor p found segments
    → All (IsLawfulSegment p first next) segments
segments_lawful p first next found [] w all is = All-nil (IsLawfulSegment p first next)
segments_lawful p first next found (segment ∷ segments) w all (part, rest, cut, stands, more) =
    let split : All (IsIn first next) (part ++ rest) = subst (All (IsIn first next)) cut all in
    All-cons (IsLawfulSegment p first next) segment segments
    (segment_lawful p first next part segment w (all_first (IsIn first next) part rest split) stands)
    (segments_lawful p first next rest segments w (all_rest (IsIn first next) part rest split) more)

some_segments : (p : ScriptPlan) (found : List Record) (segments : List (List Path)) → SegmentsStandFor p found segments → 1 ≤ length found → 1 ≤ length segments
some_segments p found [] is many = absurd (omega (arith, ap length is))
some_segments p found (segment ∷ segments) is many = omega arith

pub chain_lawful : (p : ScriptPlan) (first next : ℕ) (found : List Record) (chain : Chained) → IsWellFormed p → 1 ≤ length found → All (IsIn first next) found → IsClosed chain → ChainStandsFor p found chain → IsLawfulChain p first next chain
chain_lawful p first next found chain w many all closed stand =
    let segments = closed_segments p found chain closed stand in
    record {
      some = some_segments p found chain.segments segments many;
      closed = closed;
      each = segments_lawful p first next found chain.segments w all segments;
    }

-- ---- lawful groups
pub keyed_groups_lawful : (p : ScriptPlan) (first next : ℕ) (found : List Record) (groups : Chains) → IsWellFormed p → All (IsKey p) (keys p found) → AreNumbered first next found → AreClosed groups → GroupsStandFor p found groups
    → All (IsLawfulGroup p first next) groups
keyed_groups_lawful p first next found groups w are_keys numbered closed stand =
    let in_range = numbers_in first first next found (omega arith) numbered in
    let some_keys = subst (All (λ (key : Key). 1 ≤ length (records_of p key found))) (sym stand.keys_are) (some_of p found) in
    let some = unmapped (λ (g : Key × Chained). g.0) (λ (key : Key). 1 ≤ length (records_of p key found)) groups some_keys in
    let key = unmapped (λ (g : Key × Chained). g.0) (IsKey p) groups (subst (All (IsKey p)) (sym stand.keys_are) are_keys) in
    λ k d near.
    let group = slice_index_or groups k d in
    record {
      key = key k d near;
      chain =
          chain_lawful p first next (records_of p group.0 found) group.1 w (some k d near)
          (All-filter (λ rec. is_key (key_of p rec) group.0) (IsIn first next) found in_range) (closed k d near) (stand.each k d near);
    }

-- ---- saved runs
-- A saved run that stands for records and keeps none, whose keys are of the script's kinds, is lawful.
pub keyed_saved_lawful : (p : ScriptPlan) (found : List Record) (saved : Saved) → IsWellFormed p → 1 ≤ saved.first → AreClosed saved.groups → SavedStandsFor p found saved → All (IsKey p) (keys_of saved.groups)
    → IsLawfulSaved p saved
keyed_saved_lawful p found saved w from closed stand are_keys = record {
  from = from;
  order = numbered_order saved.first saved.next found stand.numbered;
  distinct = subst (IsDistinct is_key) (sym stand.groups.keys_are) (keys_apart p found);
  each = keyed_groups_lawful p saved.first saved.next found saved.groups w (subst (All (IsKey p)) stand.groups.keys_are are_keys) stand.numbered closed stand.groups;
}

-- The keys of records of the script are of its kinds.
keys_kinds : (p : ScriptPlan) (found : List Record) → All (IsRecord p) found → All (IsKey p) (keys p found)
keys_kinds p found kinds = unmapped _ (λ (pair : Key × Outcome). IsKey p pair.0) (keys p found) (pass_keys p found kinds)

pub recorded_saved_lawful : (p : ScriptPlan) (found : List Record) (saved : Saved) → IsWellFormed p → 1 ≤ saved.first → AreClosed saved.groups → SavedStandsFor p found saved → All (IsRecord p) found → IsLawfulSaved p saved
recorded_saved_lawful p found saved w from closed stand kinds =
    keyed_saved_lawful p found saved w from closed stand (subst (All (IsKey p)) (sym stand.groups.keys_are) (keys_kinds p found kinds))
