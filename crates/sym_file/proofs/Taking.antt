-- Groups that are led through the chains of saved runs.
use Rattle.std.proofs.Common.{◌≡◌, ◌∙◌, ℕ, zero, suc, ◌+◌, ◌<◌, ◌≤◌, refl, sym, ap, subst, arith, Bool, true, false, cond, List, [], ◌∷◌, ◌++◌, drop, length, map, get_or, is_some, Option, Some, None}
use Rattle.std.specs.Prelude.{IfOk, Result, option_and_then, slice_get}
use Rattle.std.specs.List.{All}
use Rattle.std.specs.Map.{keys_of, lookup, values_of}
use Rattle.std.proofs.lemmas.List.{drop_all}
use Rattle.std.proofs.lemmas.Option.{get_or_from_slice_get, slice_get_within}
use Rattle.std.proofs.lemmas.Result.{IfOk-weaker}
use Rattle.std.proofs.lemmas.List.Elements.{All-cons, All-head, All-nil, All-tail, All-weaker}
use Rattle.sym_base.specs.Tests.{Truth}
use Rattle.sym_base.specs.declared.values.memory.NoMemory.{NoMemory}
use Rattle.sym_base.specs.declared.values.value.Key.{Key}
use Rattle.sym_base.specs.declared.values.record.Record.{Record}
use Rattle.sym_base.specs.declared.values.state.State.{State}
use Rattle.sym_base.specs.declared.values.state.Outcome.{Outcome}
use Rattle.sym_base.specs.declared.values.state.Outcome.TheVariants.{Going}
use Rattle.sym_base.specs.declared.values.state.Outcome.TheVariants as outcome
use Rattle.sym_check.specs.Meaning.Conditions.{test_truth}
use Rattle.sym_check.specs.Meaning.Groups.{is_key, records_of}
use Rattle.sym_check.specs.Meaning.Updates.{after, initial}
use Rattle.sym_check.specs.Meaning.Validity.{IsRecord, IsValid, IsValidOutcome}
use Rattle.sym_check.specs.Plan.ScriptPlans.{ScriptPlan}
use Rattle.sym_path.specs.Admitting.{Admits, admits}
use Rattle.sym_path.specs.Following.{end_after}
use Rattle.sym_path.specs.Giving.{end_at, outcomes}
use Rattle.sym_path.specs.Leading.{IsFirstFor, NoneAdmits}
use Rattle.sym_path.specs.declared.path.Path.{Path}
use Rattle.sym_path.specs.Fitting.{PathFits, SegmentFits}
use Rattle.sym_path.specs.Standing.{StandsFor}
use Rattle.sym_path.proofs.Lists.{all_at}
use Rattle.sym_path.proofs.Composed.{outcome_valid}
use Rattle.sym_path.proofs.Decided.{admits_decided}
use Rattle.sym_path.proofs.OnlyOutcomes.{only_outcome}
use Rattle.sym_check.proofs.Keys.{same_key}
use Rattle.sym_check.proofs.PlanLaws.{after_append, ended_stays}
use Rattle.sym_plain.specs.Pairs.{HaveDistinctKeys, after_keys, after_records, put, put_by_index, standing}
use Rattle.sym_plain.proofs.Apart.{groups_apart}
use Rattle.sym_plain.proofs.Pairs.{indexed-lookup, indexed-put}
use Rattle.sym_run.specs.Applying.{AreValid}
use Rattle.sym_run.specs.Chained.{Chained}
use Rattle.sym_run.specs.Chains.{ChainFits, ChainStandsFor, IsClosed, SegmentsStandFor}
use Rattle.sym_run.specs.Runs.{AreClosed, GroupsStandFor}
use Rattle.sym_run.specs.SavedRuns.{IsLawfulGroup, IsLawfulPath, IsLawfulSegment}
use Rattle.sym_run.proofs.GroupPuts.{absent_key, all_found, all_put}
use Rattle.sym_run.proofs.KeptRecords.{closed_segments}
use Rattle.sym_file.specs.declared.totals.Taken.{Taken}
use Rattle.sym_file.specs.declared.totals.Taken.TheVariants.{Done, Gap}
use Rattle.sym_file.specs.Totals.{IsLed, IsTaken, first_of, led_by, led_in_turn, led_through, taken, taken_on}
use Rattle.sym_file.proofs.Loops.{left_from}

-- ---- the first path for a state
first_led : (truth : Truth) (paths : List Path) (s : State) (index : ℕ) (path : Path) → slice_get paths index ≡ Some path → Admits truth path.when s
    → ((i : ℕ) (other : Path) → i < index → slice_get paths i ≡ Some other → Admits truth other.when s → ⊥) → first_of (outcomes truth paths s) ≡ Some (end_at path.end s)
first_led truth [] s index path is there none = absurd cc
first_led truth (q ∷ qs) s zero path is there none =
    let same : q ≡ path = cc in
    let yes : admits truth q.when s.cells ≡ true = (admits_decided truth q.when s).1 (subst (λ (r : Path). Admits truth r.when s) (sym same) there) in
    rw yes (ap (λ (r : Path). Some (end_at r.end s)) same)
first_led truth (q ∷ qs) s (suc index) path is there none = of (admits truth q.when s.cells) refl (first_led truth qs s index path is there (λ i other below at. none (suc i) other (omega (arith, below)) at))
  where
    of : (b : Bool) → admits truth q.when s.cells ≡ b → first_of (outcomes truth qs s) ≡ Some (end_at path.end s) → first_of (outcomes truth (q ∷ qs) s) ≡ Some (end_at path.end s)
    of true e later = absurd (none 0 q (omega arith) refl ((admits_decided truth q.when s).0 e))
    of false e later = rw e later

led_first : (truth : Truth) (paths : List Path) (s : State) (index : ℕ) (f : IsFirstFor truth paths s index) → led_by truth paths (Going s) ≡ Some (end_at f.path.end s)
led_first truth paths s index f = first_led truth paths s index f.path f.is f.admitted f.none_before

pub led_none : (truth : Truth) (paths : List Path) (s : State) → NoneAdmits truth paths s → led_by truth paths (Going s) ≡ None
led_none truth [] s none = refl
led_none truth (q ∷ qs) s none = of (admits truth q.when s.cells) refl (led_none truth qs s (All-tail (λ (path : Path). Admits truth path.when s → ⊥) q qs none))
  where
    of : (b : Bool) → admits truth q.when s.cells ≡ b → first_of (outcomes truth qs s) ≡ None → first_of (outcomes truth (q ∷ qs) s) ≡ None
    of true e later = absurd (All-head (λ (path : Path). Admits truth path.when s → ⊥) q qs none ((admits_decided truth q.when s).0 e))
    of false e later = rw e later

-- The path at the index of the first one that admits the state.
pub led_path : (truth : Truth) (paths : List Path) (s : State) (o new : Outcome) (index : ℕ) (path : Path) → o ≡ Going s → IsFirstFor truth paths s index → slice_get paths index ≡ Some path → new ≡ end_after path.end o → led_by truth paths o ≡ Some new
led_path truth paths s o new index path is first at gives =
    let here : Some path ≡ Some first.path = sym at ∙ first.is in
    let same : path ≡ first.path = cc in
    let made : new ≡ end_at first.path.end s = gives ∙ ap (end_after path.end) is ∙ ap (λ (q : Path). end_at q.end s) same in
    ap (led_by truth paths) is ∙ led_first truth paths s index first ∙ ap Some (sym made)

-- ---- one segment after the other
module _ (truth : Truth) (segments : List (List Path)) (i : ℕ) (outcome : Outcome) (all : Option Outcome) where
  module _ (segment : List Path) (within : i < length segments) (is : segment ≡ get_or segments i segment) where
    next_led : led_in_turn truth (drop i segments) outcome ≡ option_and_then (led_in_turn truth (drop (i + 1) segments)) (led_by truth segment outcome)
    next_led = ap (λ (ss : List (List Path)). led_in_turn truth ss outcome) (left_from segments i segment within is)

    pub led_more : (now : Outcome) → led_by truth segment outcome ≡ Some now → led_in_turn truth (drop i segments) outcome ≡ all → led_in_turn truth (drop (i + 1) segments) now ≡ all
    led_more now led so_far = sym (next_led ∙ ap (λ (o : Option Outcome). option_and_then (led_in_turn truth (drop (i + 1) segments)) o) led) ∙ so_far

    pub led_stops : led_by truth segment outcome ≡ None → led_in_turn truth (drop i segments) outcome ≡ all → all ≡ None
    led_stops led so_far = sym so_far ∙ next_led ∙ ap (λ (o : Option Outcome). option_and_then (led_in_turn truth (drop (i + 1) segments)) o) led

  pub led_all : length segments ≤ i → led_in_turn truth (drop i segments) outcome ≡ all → all ≡ Some outcome
  led_all past so_far = sym so_far ∙ ap (λ (ss : List (List Path)). led_in_turn truth ss outcome) (drop_all i segments past)

pub led_yes : (b : Bool) (now : Outcome) (led : Option Outcome) → b ≡ true → IsLed b now led → led ≡ Some now
led_yes true now led e h = h
led_yes false now led e h = absurd cc

pub led_no : (b : Bool) (now : Outcome) (led : Option Outcome) → b ≡ false → IsLed b now led → led ≡ None
led_no true now led e h = absurd cc
led_no false now led e h = h

-- ---- chains that stand for records
led_stands : (p : ScriptPlan) (records : List Record) (segment : List Path) (o : Outcome) → StandsFor p records segment → IsValidOutcome p o → led_by (test_truth p.tests) segment o ≡ Some (after p records o)
led_stands p records segment (Going s) h valid = ap first_of ((only_outcome (test_truth p.tests) segment s (after p records (Going s))).1 (h.exact s valid))
led_stands p records segment (outcome.Ended fault) h valid = ap Some (sym (ended_stays p records fault))

after_valid : (p : ScriptPlan) (records : List Record) (segment : List Path) (o : Outcome) → StandsFor p records segment → IsValidOutcome p o → IsValidOutcome p (after p records o)
after_valid p records segment (Going s) h valid = outcome_valid p records segment s h valid
after_valid p records segment (outcome.Ended fault) h valid = subst (IsValidOutcome p) (sym (ended_stays p records fault)) tt

segments_led : (p : ScriptPlan) (records : List Record) (segments : List (List Path)) (o : Outcome) → SegmentsStandFor p records segments → IsValidOutcome p o
    → (led_in_turn (test_truth p.tests) segments o ≡ Some (after p records o)) × IsValidOutcome p (after p records o)
segments_led p records [] o h valid =
    (ap (λ (rs : List Record). Some (after p rs o)) (sym h), subst (λ (rs : List Record). IsValidOutcome p (after p rs o)) (sym h) valid)
segments_led p records (segment ∷ segments) o h valid =
    let first = h.0 in
    let rest = h.1 in
    let one = led_stands p first segment o h.3 valid in
    let others = segments_led p rest segments (after p first o) h.4 (after_valid p first segment o h.3 valid) in
    let whole : after p rest (after p first o) ≡ after p records o = sym (after_append p first rest o) ∙ ap (λ (rs : List Record). after p rs o) (sym h.2) in (
      ap (λ (led : Option Outcome). option_and_then (led_in_turn (test_truth p.tests) segments) led) one ∙ others.0 ∙ ap Some whole,
      subst (IsValidOutcome p) whole others.1,
    )

chain_led : (p : ScriptPlan) (records : List Record) (chain : Chained) (o : Outcome) → IsClosed chain → ChainStandsFor p records chain → IsValidOutcome p o
    → (led_through (test_truth p.tests) chain o ≡ Some (after p records o)) × IsValidOutcome p (after p records o)
chain_led p records chain o closed h valid = segments_led p records chain.segments o (closed_segments p records chain closed h) valid

-- ---- groups
standing_valid : (p : ScriptPlan) (key : Key) (totals : List (Key × Outcome)) → IsValid p (initial p) → AreValid p totals → IsValidOutcome p (standing p (lookup (is_key key) totals))
standing_valid p key totals first valid = of (lookup (is_key key) totals) refl
  where
    of : (found : Option Outcome) → lookup (is_key key) totals ≡ found → IsValidOutcome p (standing p found)
    of None e = first
    of (Some o) e = all_found (λ (k : Key) (v : Outcome). IsValidOutcome p v) key o totals valid e

put_valid : (p : ScriptPlan) (key : Key) (o : Outcome) (totals : List (Key × Outcome)) → IsValidOutcome p o → AreValid p totals → AreValid p (put totals key o)
put_valid p key o totals valid all =
    all_put (λ (k : Key) (v : Outcome). IsValidOutcome p v) (λ (k : Key) (v : Outcome). IsValidOutcome p v) key o (λ j u e h. h) (λ j e. valid) totals (same_key key) all

taken_stands : (p : ScriptPlan) (records : List Record) (groups : List (Key × Chained)) (index : ℕ) (totals : List (Key × Outcome)) → IsValid p (initial p) → AreValid p totals
    → AreClosed groups → All (λ group. ChainStandsFor p (records_of p group.0 records) group.1) groups → taken p index groups totals ≡ Done (after_keys p records (keys_of groups) totals)
taken_stands p records [] index totals first valid closed each = refl
taken_stands p records (g ∷ groups) index totals first valid closed each =
    let led = chain_led p (records_of p g.0 records) g.1 (standing p (lookup (is_key g.0) totals)) (All-head (λ group. IsClosed group.1) g groups closed) (All-head (λ group. ChainStandsFor p (records_of p group.0 records) group.1) g groups each) (standing_valid p g.0 totals first valid) in
    ap (λ (o : Option Outcome). taken_on index (λ now. taken p (suc index) groups (put totals g.0 now)) o) led.0
    ∙ taken_stands p records groups (suc index) (put totals g.0 (after p (records_of p g.0 records) (standing p (lookup (is_key g.0) totals)))) first
    (put_valid p g.0 (after p (records_of p g.0 records) (standing p (lookup (is_key g.0) totals))) totals led.1 valid)
    (All-tail (λ group. IsClosed group.1) g groups closed)
    (All-tail (λ group. ChainStandsFor p (records_of p group.0 records) group.1) g groups each)

-- Where the groups stand for records, nothing is a gap.
pub taken_records : (p : ScriptPlan) (records : List Record) (groups : List (Key × Chained)) (totals : List (Key × Outcome)) → IsValid p (initial p) → AreValid p totals → AreClosed groups → GroupsStandFor p records groups
    → taken p 0 groups totals ≡ Done (after_records p records totals)
taken_records p records groups totals first valid closed h =
    taken_stands p records groups 0 totals first valid closed h.each
    ∙ ap (λ (ks : List Key). Done (after_keys p records ks totals)) h.keys_are
    ∙ ap Done (sym (groups_apart p records totals))

-- ---- one group
pub taken_by : (key : Key) (old : List (Key × Outcome)) (b : Bool) (now : Outcome) (led : Option Outcome) → IsLed b now led → IsTaken key old led b (put old key now)
taken_by key old true now led h = (now, h, refl)
taken_by key old false now led h = h

put_new : (key : Key) (groups : List (Key × Outcome)) (now : Outcome) → lookup (is_key key) groups ≡ None → groups ++ (key, now) ∷ [] ≡ put groups key now
put_new key groups now none =
    sym (ap (λ (t : Bool). cond t (map (λ q. cond (is_key key q.0) (q.0, now) q) groups) (groups ++ (key, now) ∷ [])) (absent_key key groups none))

module _ (p : ScriptPlan) (key : Key) (chain : Chained) (old : List (Key × Outcome)) where
  -- A new group begins with the initial state.
  pub begun_not : (s : State) (now : Outcome) → s ≡ initial p → IsLed false now (led_through (test_truth p.tests) chain (Going s)) → led_through (test_truth p.tests) chain (standing p None) ≡ None
  begun_not s now is h = sym (ap (λ (t : State). led_through (test_truth p.tests) chain (Going t)) is) ∙ h

  pub begun_taken : (s : State) (now : Outcome) (new : List (Key × Outcome)) → s ≡ initial p → lookup (is_key key) old ≡ None
      → led_through (test_truth p.tests) chain (Going s) ≡ Some now → new ≡ old ++ (key, now) ∷ [] → IsTaken key old (led_through (test_truth p.tests) chain (standing p None)) true new
  begun_taken s now new is none led more =
      (now, sym (ap (λ (t : State). led_through (test_truth p.tests) chain (Going t)) is) ∙ led, more ∙ put_new key old now none)

  -- The group at an index has the key that is there.
  pub taken_at : (index : ℕ) (before now : Outcome) (b : Bool) → HaveDistinctKeys old → Some before ≡ slice_get (values_of old) index → IsLed b now (led_through (test_truth p.tests) chain before)
      → slice_get (keys_of old) index ≡ Some key → IsTaken key old (led_through (test_truth p.tests) chain (standing p (lookup (is_key key) old))) b (put_by_index old index now)
  taken_at index before now b apart is led at =
      let found : lookup (is_key key) old ≡ Some before = indexed-lookup old key index apart at ∙ sym is in
      let here : IsTaken key old (led_through (test_truth p.tests) chain before) b (put old key now) = taken_by key old b now (led_through (test_truth p.tests) chain before) led in
      subst (λ (new : List (Key × Outcome)). IsTaken key old (led_through (test_truth p.tests) chain (standing p (lookup (is_key key) old))) b new) (sym (indexed-put old key index now apart at))
      (subst (λ (f : Option Outcome). IsTaken key old (led_through (test_truth p.tests) chain (standing p f)) b (put old key now)) (sym found) here)

  pub new_taken : (b : Bool) (new : List (Key × Outcome)) → lookup (is_key key) old ≡ None → IsTaken key old (led_through (test_truth p.tests) chain (standing p None)) b new
      → IsTaken key old (led_through (test_truth p.tests) chain (standing p (lookup (is_key key) old))) b new
  new_taken b new none h = subst (λ (f : Option Outcome). IsTaken key old (led_through (test_truth p.tests) chain (standing p f)) b new) (sym none) h

  pub copy_taken : (r : Result Bool NoMemory) (copy : Key) (new : List (Key × Outcome)) → copy ≡ key → lookup (is_key key) old ≡ None
      → IfOk r (λ b. IsTaken copy old (led_through (test_truth p.tests) chain (standing p None)) b new)
      → IfOk r (λ b. IsTaken key old (led_through (test_truth p.tests) chain (standing p (lookup (is_key key) old))) b new)
  copy_taken r copy new same none h =
      IfOk-weaker r (λ b. IsTaken copy old (led_through (test_truth p.tests) chain (standing p None)) b new) (λ b. IsTaken key old (led_through (test_truth p.tests) chain (standing p (lookup (is_key key) old))) b new)
      (λ b t. new_taken b new none (subst (λ (k : Key). IsTaken k old (led_through (test_truth p.tests) chain (standing p None)) b new) same t)) h

pub not_found : {V : Type 0} (found : Option V) → false ≡ is_some found → found ≡ None
not_found None e = refl
not_found (Some o) e = absurd cc

-- ---- a group by its index
pub nothing_there : {V : Type 0} (key : Key) (groups : List (Key × V)) (index : ℕ) → slice_get (keys_of groups) index ≡ Some key → None ≡ slice_get (values_of groups) index → ⊥
nothing_there key [] index at none = absurd cc
nothing_there key (g ∷ groups) zero at none = absurd cc
nothing_there key (g ∷ groups) (suc index) at none = nothing_there key groups index at none

pub valid_at : (p : ScriptPlan) (groups : List (Key × Outcome)) (index : ℕ) (o : Outcome) → AreValid p groups → Some o ≡ slice_get (values_of groups) index → IsValidOutcome p o
valid_at p [] index o h at = absurd cc
valid_at p (g ∷ groups) zero o h at =
    let same : g.1 ≡ o = cc in
    subst (IsValidOutcome p) same (All-head (λ (group : Key × Outcome). IsValidOutcome p group.1) g groups h)
valid_at p (g ∷ groups) (suc index) o h at = valid_at p groups index o (All-tail (λ (group : Key × Outcome). IsValidOutcome p group.1) g groups h) at

pub valid_set : (p : ScriptPlan) (groups : List (Key × Outcome)) (index : ℕ) (o : Outcome) → AreValid p groups → IsValidOutcome p o → AreValid p (put_by_index groups index o)
valid_set p [] index o h v = h
valid_set p (g ∷ groups) zero o h v =
    All-cons (λ (group : Key × Outcome). IsValidOutcome p group.1) (g.0, o) groups v (All-tail (λ (group : Key × Outcome). IsValidOutcome p group.1) g groups h)
valid_set p (g ∷ groups) (suc index) o h v =
    All-cons (λ (group : Key × Outcome). IsValidOutcome p group.1) g (put_by_index groups index o) (All-head (λ (group : Key × Outcome). IsValidOutcome p group.1) g groups h)
    (valid_set p groups index o (All-tail (λ (group : Key × Outcome). IsValidOutcome p group.1) g groups h) v)

-- The chain of a lawful group fits the script.
pub chain_fits : (p : ScriptPlan) (first next : ℕ) (groups : List (Key × Chained)) (index : ℕ) (key : Key) (chain : Chained) → All (IsLawfulGroup p first next) groups → slice_get groups index ≡ Some (key, chain) → ChainFits p chain
chain_fits p first next groups index key chain each there =
    let group : IsLawfulGroup p first next (key, chain) = all_at (IsLawfulGroup p first next) groups index (key, chain) each there in
    record {
      segments = All-weaker (IsLawfulSegment p first next) (SegmentFits p) (λ paths h. All-weaker (IsLawfulPath p first next) (PathFits p) (λ path l. l.fits) paths h.each) chain.segments group.chain.each;
      kept = subst (All (IsRecord p)) (sym group.chain.closed) (All-nil (IsRecord p));
    }

-- The chains of lawful groups keep no records.
pub lawful_closed : (p : ScriptPlan) (first next : ℕ) (groups : List (Key × Chained)) → All (IsLawfulGroup p first next) groups → AreClosed groups
lawful_closed p first next groups each =
    All-weaker (IsLawfulGroup p first next) (λ group. IsClosed group.1) (λ group h. h.chain.closed) groups each

-- ---- one group after the other
abbrev Chains : Type 0
Chains = List (Key × Chained)

left_at : {A : Type 0} (xs : List A) (i : ℕ) (x : A) → slice_get xs i ≡ Some x → drop i xs ≡ x ∷ drop (i + 1) xs
left_at xs i x e = left_from xs i x (slice_get_within xs i x e) (sym (get_or_from_slice_get xs i x x e))

module _ (p : ScriptPlan) (groups : Chains) (key : Key) (chain : Chained) (index : ℕ) (old new : List (Key × Outcome)) (all : Taken) where
  abbrev led : Option Outcome
  led = led_through (test_truth p.tests) chain (standing p (lookup (is_key key) old))

  next_taken : slice_get groups index ≡ Some (key, chain) → taken p index (drop index groups) old ≡ taken_on index (λ now. taken p (suc index) (drop (index + 1) groups) (put old key now)) led
  next_taken there = ap (λ (gs : Chains). taken p index gs old) (left_at groups index (key, chain) there)

  pub one_taken : slice_get groups index ≡ Some (key, chain) → IsTaken key old led true new → taken p index (drop index groups) old ≡ all → taken p (index + 1) (drop (index + 1) groups) new ≡ all
  one_taken there h so_far =
      let one : taken p index (drop index groups) old ≡ taken p (suc index) (drop (index + 1) groups) (put old key h.0) =
      next_taken there ∙ ap (λ (o : Option Outcome). taken_on index (λ now. taken p (suc index) (drop (index + 1) groups) (put old key now)) o) h.1 in
      let same : index + 1 ≡ suc index = omega arith in
      ap (λ (n : ℕ). taken p n (drop (index + 1) groups) new) same ∙ ap (λ (g : List (Key × Outcome)). taken p (suc index) (drop (index + 1) groups) g) h.2 ∙ sym one ∙ so_far

  pub one_gap : slice_get groups index ≡ Some (key, chain) → IsTaken key old led false new → taken p index (drop index groups) old ≡ all → all ≡ Gap index
  one_gap there h so_far = sym so_far ∙ next_taken there ∙ ap (λ (o : Option Outcome). taken_on index (λ now. taken p (suc index) (drop (index + 1) groups) (put old key now)) o) h

pub all_taken : (p : ScriptPlan) (groups : Chains) (index : ℕ) (totals : List (Key × Outcome)) (all : Taken) → length groups ≤ index → taken p index (drop index groups) totals ≡ all → all ≡ Done totals
all_taken p groups index totals all past so_far = sym so_far ∙ ap (λ (gs : Chains). taken p index gs totals) (drop_all index groups past)
