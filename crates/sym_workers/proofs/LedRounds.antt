-- Groups that the runs of a round's stretches lead on, one after the other.
use Rattle.std.proofs.Common.{◌≡◌, ◌∙◌, refl, ap, sym, subst, arith, ℕ, ◌+◌, ◌-◌, ◌≤◌, ◌<◌, List, [], ◌∷◌, ◌++◌, length, length-append, Result, Ok, Err, IfOk}
use Rattle.std.specs.Prelude.{slice_index_or, slice_range}
use Rattle.std.proofs.lemmas.List.{get_or_at, take_all}
use Rattle.sym_base.specs.declared.values.memory.NoMemory.{NoMemory}
use Rattle.sym_base.specs.declared.values.record.Record.{Record}
use Rattle.sym_base.specs.declared.values.value.Key.{Key}
use Rattle.sym_base.specs.declared.values.state.Outcome.{Outcome}
use Rattle.sym_check.specs.Checking.CheckedScripts.{checked_plan}
use Rattle.sym_check.specs.Plan.ScriptPlans.{ScriptPlan}
use Rattle.sym_plain.specs.Pairs.{after_records}
use Rattle.sym_plain.proofs.Apart.{records_on}
use Rattle.sym_table.specs.declared.bad.Bad.{Bad as BadRow}
use Rattle.sym_table.specs.declared.chunk.Chunk.{Chunk}
use Rattle.sym_table.specs.ChunkRecords.{all_records}
use Rattle.sym_table.specs.RowRecords.{in_turn}
use Rattle.sym_run.specs.declared.runs.Applied.{Applied}
use Rattle.sym_run.specs.declared.runs.Applied.TheVariants as applied
use Rattle.sym_run.specs.declared.runs.Run.{Run}
use Rattle.sym_run.specs.Applying.{applied_to}
use Rattle.sym_run.specs.Runs.{StandsForChunks}
use Rattle.sym_run.proofs.FoundRecords.{found_in_turn}
use Rattle.sym_files.specs.declared.rounds.Work.{Work}
use Rattle.sym_workers.specs.Leading.{AreRunsOf, run_records}
use Rattle.sym_workers.specs.Pieces.{AreStretches, StandsBetween, start_of}
use Rattle.sym_workers.specs.RoundRuns.{StandsForAll}

abbrev Pairs : Type 0
Pairs = List (Key × Outcome)

abbrev Read : Type 0
Read = Result (List Record) BadRow

-- ---- all chunks
-- All chunks are in the range from none to all.
whole : (chunks : List Chunk) (lo hi : ℕ) → lo ≡ 0 → hi ≡ length chunks → slice_range chunks lo hi ≡ chunks
whole chunks lo hi from to = rw (from, to) (take_all (length chunks - 0) chunks (omega arith))

-- By all chunks of a round.
pub all_applied : (p : ScriptPlan) (limit : ℕ) (chunks : List Chunk) (run : Run) (old : Pairs) (r : Result Applied NoMemory) → StandsForAll p limit chunks run
    → IfOk r (λ found. found ≡ applied_to p (run_records p chunks run) old) → IfOk r (λ found. found ≡ applied_to p (all_records p chunks) old)
all_applied p limit chunks run old r h is =
    subst (λ (cs : List Chunk). IfOk r (λ found. found ≡ applied_to p (all_records p cs) old)) (whole chunks run.lo run.hi h.ends.from h.ends.to) is

-- ---- one run after another
then_on : (p : ScriptPlan) (first rest : List Record) (old now new : Pairs) → applied.Done now ≡ applied.Done (after_records p first old) → new ≡ after_records p rest now
    → new ≡ after_records p (first ++ rest) old
then_on p first rest old now new led on =
    let same : now ≡ after_records p first old = cc in
    on ∙ ap (after_records p rest) same ∙ records_on p first rest old

applied_on : (p : ScriptPlan) (first next : Read) (old now : Pairs) (found : Applied) → applied.Done now ≡ applied_to p first old → found ≡ applied_to p next now
    → found ≡ applied_to p (in_turn first next) old
applied_on p (Ok first) (Ok rest) old now found led is = is ∙ ap applied.Done (then_on p first rest old now (after_records p rest now) led refl)
applied_on p (Ok first) (Err bad) old now found led is = is
applied_on p (Err bad) next old now found led is = absurd (cc)

broken_on : (p : ScriptPlan) (first next : Read) (old : Pairs) (bad : BadRow) → applied.Bad bad ≡ applied_to p first old → applied.Bad bad ≡ applied_to p (in_turn first next) old
broken_on p (Ok first) next old bad is = absurd (cc)
broken_on p (Err other) next old bad is = is

-- The groups after the first stretches of a round, or the first row of them that is no record.
abbrev pub IsLed : Work → ℕ → ℕ → Pairs → Applied → Type 0
IsLed work each count old found =
    found ≡ applied_to (checked_plan work.checked) (all_records (checked_plan work.checked) (slice_range work.chunks 0 (start_of (length work.chunks) each count))) old

-- No stretch yet.
pub none_led : (work : Work) (each : ℕ) (old : Pairs) → IsLed work each 0 old (applied.Done old)
none_led work each old =
    let none : start_of (length work.chunks) each 0 ≡ 0 = omega arith in
    let P : ℕ → Type 0 = λ n. applied.Done old ≡ applied_to (checked_plan work.checked) (all_records (checked_plan work.checked) (slice_range work.chunks 0 n)) old in
    subst P (sym none) refl

-- The next stretch, by its run.
pub next_led : (work : Work) (each number : ℕ) (run : Run) (old now : Pairs) (found : Applied) → StandsBetween work each number (number + 1) run
    → IsLed work each number old (applied.Done now) → found ≡ applied_to (checked_plan work.checked) (run_records (checked_plan work.checked) work.chunks run) now → IsLed work each (number + 1) old found
next_led work each number run old now found h led is =
    let p = checked_plan work.checked in
    let mid = start_of (length work.chunks) each number in
    let hi = start_of (length work.chunks) each (number + 1) in
    let from = h.ends.from in
    let to = h.ends.to in
    let order : mid ≤ hi = subst (λ (n : ℕ). n ≤ hi) from (subst (λ (n : ℕ). run.lo ≤ n) to h.stands.order) in
    let part : found ≡ applied_to p (all_records p (slice_range work.chunks mid hi)) now =
    is ∙ ap (λ (n : ℕ). applied_to p (all_records p (slice_range work.chunks n run.hi)) now) from ∙ ap (λ (n : ℕ). applied_to p (all_records p (slice_range work.chunks mid n)) now) to in
    subst (λ (read : Read). found ≡ applied_to p read old) (sym (found_in_turn p work.chunks 0 mid hi (omega arith) order))
    (applied_on p (all_records p (slice_range work.chunks 0 mid)) (all_records p (slice_range work.chunks mid hi)) old now found led part)

-- A row of the first stretches is no record.
pub led_to_bad : (work : Work) (each count : ℕ) (old : Pairs) (bad : BadRow) → IsLed work each count old (applied.Bad bad)
    → applied.Bad bad ≡ applied_to (checked_plan work.checked) (all_records (checked_plan work.checked) work.chunks) old
led_to_bad work each count old bad is =
    let p = checked_plan work.checked in
    let n = length work.chunks in
    let mid = start_of n each count in
    let order : mid ≤ n = omega arith in
    let all : all_records p work.chunks ≡ in_turn (all_records p (slice_range work.chunks 0 mid)) (all_records p (slice_range work.chunks mid n)) =
    sym (ap (all_records p) (whole work.chunks 0 n refl refl)) ∙ found_in_turn p work.chunks 0 mid n (omega arith) order in
    subst (λ (read : Read). applied.Bad bad ≡ applied_to p read old) (sym all)
    (broken_on p (all_records p (slice_range work.chunks 0 mid)) (all_records p (slice_range work.chunks mid n)) old bad is)

-- All stretches.
pub led_by_all : (work : Work) (each count : ℕ) (old now : Pairs) → AreStretches (length work.chunks) each count → IsLed work each count old (applied.Done now)
    → applied.Done now ≡ applied_to (checked_plan work.checked) (all_records (checked_plan work.checked) work.chunks) old
led_by_all work each count old now are is =
    let p = checked_plan work.checked in
    let all = are.all in
    let to : start_of (length work.chunks) each count ≡ length work.chunks = omega arith in
    subst (λ (cs : List Chunk). applied.Done now ≡ applied_to p (all_records p cs) old) (whole work.chunks 0 (start_of (length work.chunks) each count) refl to) is

-- The run that comes next is that of the next stretch.
pub run_next : (work : Work) (each : ℕ) (runs before left rest : List (Result Run NoMemory)) (r : Result Run NoMemory) (run : Run)
    → AreRunsOf work each runs → before ++ left ≡ runs → left ≡ r ∷ rest → r ≡ Ok run → StandsBetween work each (length before) (length before + 1) run
run_next work each runs before left rest r run are all steps is =
    let n = length before in
    let P : Result Run NoMemory → Type 0 = λ x. IfOk x (StandsBetween work each n (n + 1)) in
    let same : runs ≡ before ++ r ∷ rest = sym all ∙ ap (λ (rs : List (Result Run NoMemory)). before ++ rs) steps in
    let near : n < length (before ++ r ∷ rest) = omega (arith, length-append before (r ∷ rest)) in
    let there : P (slice_index_or (before ++ r ∷ rest) n r) = subst (λ (rs : List (Result Run NoMemory)). AreRunsOf work each rs) same are n r near in
    subst P is (subst P (get_or_at before r rest r n refl) there)

-- What it makes of the groups, where the work is an equal one.
pub run_led : (work lent : Work) (each number : ℕ) (run : Run) (old now : Pairs) (r found : Applied) → work ≡ lent → StandsBetween lent each number (number + 1) run → IsLed lent each number old (applied.Done now)
    → ((limit : ℕ) (chunks : List Chunk) → StandsForChunks (checked_plan work.checked) limit chunks run → r ≡ applied_to (checked_plan work.checked) (run_records (checked_plan work.checked) chunks run) now)
    → r ≡ found → IsLed lent each (number + 1) old found
run_led work lent each number run old now r found same h led on is =
    let P : Work → Type 0 = λ w. (limit : ℕ) (chunks : List Chunk) → StandsForChunks (checked_plan w.checked) limit chunks run → r ≡ applied_to (checked_plan w.checked) (run_records (checked_plan w.checked) chunks run) now in
    next_led lent each number run old now found h led (sym is ∙ subst P same on lent.limit lent.chunks h.stands)
