-- Rounds by parts: those with no record that is shown, and the one that is scanned.
use Rattle.std.proofs.Common.{◌≡◌, ◌∙◌, ap, ap₂, sym, refl, subst, arith, ℕ, zero, suc, ◌+◌, ◌-◌, ◌%◌, ◌==◌, ◌<◌, ◌≤◌, Bool, false, if◌then◌else◌, List, [], ◌∷◌, ◌++◌, append-nil, drop, length, take, Result, Ok, Err, IfOk}
use Rattle.std.specs.Prelude.{slice_range}
use Rattle.std.specs.List.{All}
use Rattle.std.proofs.lemmas.Bool.{eqb-true, false_from_ne_true}
use Rattle.std.proofs.lemmas.List.{length-drop, length-take, take_all}
use Rattle.std.proofs.lemmas.List.Elements.{All-append, All-cons, All-drop, All-head, All-nil, All-tail, All-take}
use Rattle.std.proofs.lemmas.List.Folds.{drop_split}
use Rattle.sym_base.specs.declared.values.memory.NoMemory.{NoMemory}
use Rattle.sym_base.specs.declared.values.record.Record.{Record}
use Rattle.sym_base.specs.declared.values.value.Key.{Key}
use Rattle.sym_base.specs.declared.values.value.Value.{Value}
use Rattle.sym_base.specs.declared.values.state.Outcome.{Outcome}
use Rattle.sym_check.specs.declared.plan.script.FieldPlan.{FieldPlan}
use Rattle.sym_check.specs.Meaning.Arithmetic.{and_then}
use Rattle.sym_check.specs.Plan.ScriptPlans.{ScriptPlan}
use Rattle.sym_plain.specs.Pairs.{after_records}
use Rattle.sym_plain.proofs.Apart.{records_on}
use Rattle.sym_table.specs.declared.bad.Bad.{Bad as BadRow}
use Rattle.sym_table.specs.declared.bad.BadCause.{BadCause}
use Rattle.sym_table.specs.declared.chunk.Chunk.{Chunk}
use Rattle.sym_table.specs.declared.header.Header.{Header}
use Rattle.sym_table.specs.ChunkRecords.{RunOn, all_records, chunk_records}
use Rattle.sym_table.specs.Reading.{Row}
use Rattle.sym_table.specs.RowRecords.{in_turn, record_or_bad, records_or_bad}
use Rattle.sym_table.specs.Rows.{FitsChunk, read_row}
use Rattle.sym_run.specs.Applying.{applied_to}
use Rattle.sym_run.specs.declared.runs.Applied.{Applied}
use Rattle.sym_run.specs.declared.runs.Applied.TheVariants as applied
use Rattle.sym_run.proofs.FoundRecords.{all_records-append}
use Rattle.sym_files.specs.Rounds.{IsRound}
use Rattle.sym_scan.specs.declared.rows.TraceRow.{TraceRow}
use Rattle.sym_scan.specs.declared.scan.Scanned.{Scanned}
use Rattle.sym_scan.specs.declared.scan.Scanned.TheVariants.{Done, Bad}
use Rattle.sym_scan.specs.Scans.{scanned_to}
use Rattle.sym_scan.specs.Traces.{from_groups, is_shown, row_after, rows_after}
use Rattle.sym_scan.proofs.Found.{Found}
use Rattle.sym_scan.proofs.Standing.{rows_then}
use Rattle.sym_trace.specs.Showing.{ShowsNone}

-- ---- rows of a trace
-- Records none of which is shown.
abbrev AreHidden : ℕ → List Record → Type 0
AreHidden every records = All (λ (rec : Record). is_shown every rec ≡ false) records

-- They have no rows.
none_after : (p : ScriptPlan) (every : ℕ) (begin : Key → Outcome) (before records : List Record) → AreHidden every records →
    rows_after p every begin before records ≡ []
none_after p every begin before [] h = refl
none_after p every begin before (rec ∷ rest) h =
    let rows = rows_after p every begin (before ++ rec ∷ []) rest in
    ap (λ (b : Bool). (if b then row_after p begin before rec ∷ [] else []) ++ rows) (All-head (λ (r : Record). is_shown every r ≡ false) rec rest h)
    ∙ none_after p every begin (before ++ rec ∷ []) rest (All-tail (λ (r : Record). is_shown every r ≡ false) rec rest h)

-- ---- records
record_hidden : (every n : ℕ) (read : Result (List Value) BadCause) (others : Result (List Record) BadRow) → (n % every ≡ 0 → ⊥) → IfOk others (AreHidden every) →
    IfOk (and_then (λ rec. and_then (λ rest. Ok (rec ∷ rest)) others) (record_or_bad n read)) (AreHidden every)
record_hidden every n (Ok values) (Ok rest) hidden all =
    All-cons (λ (r : Record). is_shown every r ≡ false) (record { no = n; fields = values }) rest (false_from_ne_true (n % every == 0) (λ e. hidden (eqb-true (n % every) 0 e))) all
record_hidden every n (Ok values) (Err why) hidden all = tt
record_hidden every n (Err why) others hidden all = tt

-- The numbers from n on, of as many rows, aren't shown.
abbrev NoneShown : ℕ → ℕ → List Row → Type 0
NoneShown every n rows = (no : ℕ) → n ≤ no → no < n + length rows → no % every ≡ 0 → ⊥

rows_hidden : (p : ScriptPlan) (every : ℕ) (header : Header) (n : ℕ) (rows : List Row) → NoneShown every n rows → IfOk (records_or_bad p header n rows) (AreHidden every)
rows_hidden p every header n [] none = All-nil (λ (r : Record). is_shown every r ≡ false)
rows_hidden p every header n (row ∷ rows) none =
    record_hidden every n (read_row p.enums p.fields header row) (records_or_bad p header (n + 1) rows) (none n (omega arith) (omega arith))
    (rows_hidden p every header (n + 1) rows (λ no from below. none no (omega (arith, from)) (omega (arith, below))))

turn_hidden : (every : ℕ) (found others : Result (List Record) BadRow) → IfOk found (AreHidden every) → IfOk others (AreHidden every) → IfOk (in_turn found others) (AreHidden every)
turn_hidden every (Ok first) (Ok rest) all more = All-append (λ (r : Record). is_shown every r ≡ false) first rest all more
turn_hidden every (Ok first) (Err bad) all more = tt
turn_hidden every (Err bad) others all more = tt

chunks_hidden : (p : ScriptPlan) (every : ℕ) (cuts : List Chunk) → All (ShowsNone every) cuts → IfOk (all_records p cuts) (AreHidden every)
chunks_hidden p every [] none = All-nil (λ (r : Record). is_shown every r ≡ false)
chunks_hidden p every (cut ∷ cuts) none =
    let first = All-head (ShowsNone every) cut cuts none in
    turn_hidden every (chunk_records p cut) (all_records p cuts)
    (rows_hidden p every cut.header cut.first_no cut.rows (λ no from below. first no (record { from = from; below = below })))
    (chunks_hidden p every cuts (All-tail (ShowsNone every) cut cuts none))

-- ---- parts
abbrev Pairs : Type 0
Pairs = List (Key × Outcome)

-- Groups that were led on by records none of which is shown: a scan gives no row more.
led_scanned : (p : ScriptPlan) (every : ℕ) (read : Found) (given new : Pairs) (found : Applied) → IfOk read (AreHidden every) → found ≡ applied_to p read given → found ≡ applied.Done new →
    Done [] new ≡ scanned_to p every given read
led_scanned p every (Ok records) given new found hidden is done =
    let on : new ≡ after_records p records given = cc in
    ap₂ Done (sym (none_after p every (from_groups p given) [] records hidden)) on
led_scanned p every (Err why) given new found hidden is done = absurd (cc)

pub part_hidden : (p : ScriptPlan) (every : ℕ) (cuts : List Chunk) (given new : List (Key × Outcome)) (found : Applied) →
    All (ShowsNone every) cuts → found ≡ applied_to p (all_records p cuts) given → found ≡ applied.Done new → Done [] new ≡ scanned_to p every given (all_records p cuts)
part_hidden p every cuts given new found none is done = led_scanned p every (all_records p cuts) given new found (chunks_hidden p every cuts none) is done

-- A row of them is no record.
led_broken : (p : ScriptPlan) (every : ℕ) (read : Found) (given : Pairs) (found : Applied) (bad : BadRow) → found ≡ applied_to p read given → found ≡ applied.Bad bad →
    Bad bad ≡ scanned_to p every given read
led_broken p every (Ok records) given found bad is broken = absurd (cc)
led_broken p every (Err why) given found bad is broken = let same : bad ≡ why = cc in ap Bad same

pub part_broken : (p : ScriptPlan) (every : ℕ) (cuts : List Chunk) (given : List (Key × Outcome)) (found : Applied) (bad : BadRow) →
    found ≡ applied_to p (all_records p cuts) given → found ≡ applied.Bad bad → Bad bad ≡ scanned_to p every given (all_records p cuts)
part_broken p every cuts given found bad is broken = led_broken p every (all_records p cuts) given found bad is broken

-- ---- one part after another
both_scanned : (p : ScriptPlan) (every : ℕ) (first next : Found) (given now new : Pairs) (rows more : List TraceRow) → Done rows now ≡ scanned_to p every given first → Done more new ≡ scanned_to p every now next →
    Done (rows ++ more) new ≡ scanned_to p every given (in_turn first next)
both_scanned p every (Ok first) (Ok rest) given now new rows more begun on =
    let rows_are : rows ≡ rows_after p every (from_groups p given) [] first = cc in
    let now_is : now ≡ after_records p first given = cc in
    let more_are : more ≡ rows_after p every (from_groups p now) [] rest = cc in
    let new_is : new ≡ after_records p rest now = cc in
    ap₂ Done
    (ap₂ (λ (xs ys : List TraceRow). xs ++ ys) rows_are (more_are ∙ ap (λ (groups : Pairs). rows_after p every (from_groups p groups) [] rest) now_is)
    ∙ sym (rows_then p every given first rest))
    (new_is ∙ ap (after_records p rest) now_is ∙ records_on p first rest given)
both_scanned p every (Ok first) (Err why) given now new rows more begun on = absurd (cc)
both_scanned p every (Err why) next given now new rows more begun on = absurd (cc)

first_broken : (p : ScriptPlan) (every : ℕ) (first next : Found) (given : Pairs) (bad : BadRow) → Bad bad ≡ scanned_to p every given first → Bad bad ≡ scanned_to p every given (in_turn first next)
first_broken p every (Ok records) next given bad is = absurd (cc)
first_broken p every (Err why) next given bad is = is

next_broken : (p : ScriptPlan) (every : ℕ) (first next : Found) (given now : Pairs) (rows : List TraceRow) (bad : BadRow) → Done rows now ≡ scanned_to p every given first → Bad bad ≡ scanned_to p every now next →
    Bad bad ≡ scanned_to p every given (in_turn first next)
next_broken p every (Ok first) (Ok rest) given now rows bad begun is = absurd (cc)
next_broken p every (Ok first) (Err why) given now rows bad begun is = is
next_broken p every (Err why) next given now rows bad begun is = absurd (cc)

-- Where the first of two parts has no row, a scan of both comes to that of the other one from there.
scanned_next : (p : ScriptPlan) (every : ℕ) (first next : Found) (given now : Pairs) (scanned : Scanned) → Done [] now ≡ scanned_to p every given first →
    scanned ≡ scanned_to p every now next → scanned ≡ scanned_to p every given (in_turn first next)
scanned_next p every first next given now (Done more new) begun on = both_scanned p every first next given now new [] more begun on
scanned_next p every first next given now (Bad bad) begun on = next_broken p every first next given now [] bad begun on

-- ---- the parts of a round
-- The records of chunks from a place on: those up to another one, and then the others.
split_at : (p : ScriptPlan) (cuts : List Chunk) (lo mid : ℕ) → lo ≤ mid →
    all_records p (drop lo cuts) ≡ in_turn (all_records p (slice_range cuts lo mid)) (all_records p (drop mid cuts))
split_at p cuts lo mid order =
    ap (all_records p) (drop_split cuts lo mid order) ∙ all_records-append p (slice_range cuts lo mid) (drop mid cuts)

-- The chunks from a place on, up to the last.
rest_from : (cuts : List Chunk) (lo count : ℕ) → count ≡ length cuts → slice_range cuts lo count ≡ drop lo cuts
rest_from cuts lo count all =
    let long = length-drop lo cuts in
    take_all (count - lo) (drop lo cuts) (omega arith)

module _ (p : ScriptPlan) (every : ℕ) (cuts : List Chunk) (given : List (Key × Outcome)) where
  -- The chunks up to a place were led on, and none of them has a row.
  pub head_led : (first : ℕ) (now : List (Key × Outcome)) (found : Applied) (r : Result Scanned NoMemory) →
      All (ShowsNone every) (take first cuts) → found ≡ applied_to p (all_records p (slice_range cuts 0 first)) given → found ≡ applied.Done now →
      IfOk r (λ scanned. scanned ≡ scanned_to p every now (all_records p (drop first cuts))) → IfOk r (λ scanned. scanned ≡ scanned_to p every given (all_records p cuts))
  head_led first now found (Err why) none is done on = tt
  head_led first now found (Ok scanned) none is done on =
      let size : first - 0 ≡ first = omega arith in
      let hidden : All (ShowsNone every) (slice_range cuts 0 first) = subst (λ (n : ℕ). All (ShowsNone every) (take n cuts)) (sym size) none in
      scanned_next p every (all_records p (slice_range cuts 0 first)) (all_records p (drop first cuts)) given now scanned
      (part_hidden p every (slice_range cuts 0 first) given now found hidden is done) on
      ∙ ap (scanned_to p every given) (sym (split_at p cuts 0 first (omega arith)))

  -- One of them has a row that is no record.
  pub head_broken : (first : ℕ) (found : Applied) (bad : BadRow) → found ≡ applied_to p (all_records p (slice_range cuts 0 first)) given → found ≡ applied.Bad bad →
      Bad bad ≡ scanned_to p every given (all_records p cuts)
  head_broken first found bad is broken =
      first_broken p every (all_records p (slice_range cuts 0 first)) (all_records p (drop first cuts)) given bad (part_broken p every (slice_range cuts 0 first) given found bad is broken)
      ∙ ap (scanned_to p every given) (sym (split_at p cuts 0 first (omega arith)))

  module _ (first end count : ℕ) (order : first ≤ end) (scanned : Scanned) (is : scanned ≡ scanned_to p every given (all_records p (slice_range cuts first end))) where
    -- The chunks up to a place were scanned, and those after it led on, none of which has a row.
    pub rest_led : (rows : List TraceRow) (now new : List (Key × Outcome)) (found : Applied) → count ≡ length cuts → All (ShowsNone every) (drop end cuts) → scanned ≡ Done rows now →
        found ≡ applied_to p (all_records p (slice_range cuts end count)) now → found ≡ applied.Done new → Done rows new ≡ scanned_to p every given (all_records p (drop first cuts))
    rest_led rows now new found all none done led led_to =
        let rest = rest_from cuts end count all in
        ap (λ (shown : List TraceRow). Done shown new) (sym (append-nil rows))
        ∙ both_scanned p every (all_records p (slice_range cuts first end)) (all_records p (drop end cuts)) given now new rows [] (sym done ∙ is)
        (part_hidden p every (drop end cuts) now new found none (led ∙ ap (λ (cs : List Chunk). applied_to p (all_records p cs) now) rest) led_to)
        ∙ ap (scanned_to p every given) (sym (split_at p cuts first end order))

    -- One of those after it has a row that is no record.
    pub rest_broken : (rows : List TraceRow) (now : List (Key × Outcome)) (found : Applied) (bad : BadRow) → count ≡ length cuts → scanned ≡ Done rows now →
        found ≡ applied_to p (all_records p (slice_range cuts end count)) now → found ≡ applied.Bad bad → Bad bad ≡ scanned_to p every given (all_records p (drop first cuts))
    rest_broken rows now found bad all done led broken =
        let rest = rest_from cuts end count all in
        next_broken p every (all_records p (slice_range cuts first end)) (all_records p (drop end cuts)) given now rows bad (sym done ∙ is)
        (part_broken p every (drop end cuts) now found bad (led ∙ ap (λ (cs : List Chunk). applied_to p (all_records p cs) now) rest) broken)
        ∙ ap (scanned_to p every given) (sym (split_at p cuts first end order))

    -- One of those up to it has.
    pub scan_broken : (bad : BadRow) → scanned ≡ Bad bad → Bad bad ≡ scanned_to p every given (all_records p (drop first cuts))
    scan_broken bad broken =
        first_broken p every (all_records p (slice_range cuts first end)) (all_records p (drop end cuts)) given bad (sym broken ∙ is)
        ∙ ap (scanned_to p every given) (sym (split_at p cuts first end order))

-- ---- a part is a round
run_on_drop : (n k : ℕ) (cuts : List Chunk) → RunOn n cuts → (m : ℕ) × RunOn m (drop k cuts)
run_on_drop n zero cuts on = (n, on)
run_on_drop n (suc k) [] on = (n, tt)
run_on_drop n (suc k) (cut ∷ cuts) on = run_on_drop (n + length cut.rows) k cuts on.1

run_on_take : (n k : ℕ) (cuts : List Chunk) → RunOn n cuts → RunOn n (take k cuts)
run_on_take n zero cuts on = tt
run_on_take n (suc k) [] on = tt
run_on_take n (suc k) (cut ∷ cuts) on = (on.0, run_on_take (n + length cut.rows) k cuts on.1)

pub round_part : (fields : List FieldPlan) (cuts : List Chunk) (first end : ℕ) → IsRound fields cuts → first < end → end ≤ length cuts → IsRound fields (slice_range cuts first end)
round_part fields cuts first end round some within =
    let there = length-drop first cuts in
    let long = length-take (end - first) (drop first cuts) in
    let most = round.most in
    let numbers = run_on_drop round.first first cuts round.numbers in
    record {
      some = omega arith;
      most = omega arith;
      fit = All-take (FitsChunk fields) (end - first) (drop first cuts) (All-drop (FitsChunk fields) first cuts round.fit);
      first = numbers.0;
      numbers = run_on_take numbers.0 (end - first) (drop first cuts) numbers.1;
    }

-- By the clauses of a work of its own.
pub own_round : (p q : ScriptPlan) (cuts own : List Chunk) (first end : ℕ) → q ≡ p → own ≡ slice_range cuts first end → IsRound p.fields cuts → first < end → end ≤ length cuts →
    IsRound q.fields own
own_round p q cuts own first end plan are round some within =
    subst (λ (x : ScriptPlan). IsRound x.fields own) (sym plan) (subst (IsRound p.fields) (sym are) (round_part p.fields cuts first end round some within))
