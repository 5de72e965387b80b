-- Parts one after the other, their runs and their starts.
use Rattle.std.proofs.Common.{Vec, Global, ◌≡◌, ◌∙◌, ap, ap₂, sym, refl, subst, arith, ℕ, ◌+◌, ◌-◌, ◌≤◌, List, [], ◌∷◌, ◌++◌, append-nil, length, drop, Result, Ok, Err, IfOk}
use Rattle.std.proofs.lemmas.List.{drop_all, take_all}
use Rattle.std.specs.Map.{keys_of}
use Rattle.std.specs.Prelude.{slice_range}
use Rattle.std.proofs.lemmas.List.Folds.{drop_split}
use Rattle.std.proofs.lemmas.List.Elements.{All-cons, All-head, All-nil, All-push, All-tail}
use Rattle.std.proofs.lemmas.Grind.{flat_map-append}
use Rattle.std.specs.List.{All, AllZip, flat_map}
use Rattle.sym_base.specs.declared.values.value.Key.{Key}
use Rattle.sym_base.specs.declared.values.record.Record.{Record}
use Rattle.sym_base.specs.declared.values.state.Outcome.{Outcome}
use Rattle.sym_check.specs.Meaning.Groups.{keys}
use Rattle.sym_check.specs.Plan.ScriptPlans.{ScriptPlan}
use Rattle.sym_plain.specs.Pairs.{after_records}
use Rattle.sym_plain.proofs.Apart.{records_on}
use Rattle.sym_table.specs.declared.bad.Bad.{Bad as BadRow}
use Rattle.sym_table.specs.declared.chunk.Chunk.{Chunk}
use Rattle.sym_table.specs.ChunkRecords.{all_records}
use Rattle.sym_table.specs.RowRecords.{in_turn}
use Rattle.sym_run.specs.Applying.{IfDone, applied_to, bad_of}
use Rattle.sym_run.specs.declared.runs.Applied.{Applied}
use Rattle.sym_run.specs.declared.runs.Applied.TheVariants as applying
use Rattle.sym_run.specs.declared.runs.Run.{Run}
use Rattle.sym_run.specs.Runs.{GroupsFit, GroupsStandFor, HasFound, IsFromTo, StandsForChunks}
use Rattle.sym_run.proofs.AppliedRuns.{applied_all}
use Rattle.sym_run.proofs.FoundRecords.{all_records-append}
use Rattle.sym_scan.specs.declared.parts.Part.{Part}
use Rattle.sym_scan.specs.declared.rows.TraceRow.{TraceRow}
use Rattle.sym_scan.specs.declared.part_starts.PartRun.{PartRun}
use Rattle.sym_scan.specs.declared.part_starts.PartStarts.{PartStarts}
use Rattle.sym_scan.specs.declared.part_starts.Started.TheVariants as started
use Rattle.sym_scan.specs.declared.part_starts.AllStarted.TheVariants as all_started
use Rattle.sym_scan.specs.Parts.{AreParts, AreRuns, IsPart, IsReady, IsRun, IsRunOf, StartsAll, StartsFrom, part_chunks, part_rows, replayed_rows}
use Rattle.sym_scan.specs.Replays.{replayed_to, starts_of}
use Rattle.sym_scan.specs.Traces.{from_groups, rows_after}
use Rattle.sym_scan.proofs.Found.{Found, both_before, none_before}
use Rattle.sym_scan.proofs.Standing.{Pairs, rows_then}
use Rattle.sym_scan.proofs.StartLaws.{rows_started}

-- ---- parts
-- A part more.
pub parts_push : (from mid to : ℕ) (parts : List Part) (part : Part) → AreParts from mid parts → part.first ≡ mid → 1 ≤ part.count → mid + part.count ≡ to → AreParts from to (parts ++ part ∷ [])
parts_push from mid to [] part a first some end = (first ∙ sym a, some, ap (λ (n : ℕ). n + part.count) a ∙ end)
parts_push from mid to (x ∷ parts) part a first some end = (a.0, a.1, parts_push (from + x.count) mid to parts part a.2 first some end)

parts_order : (from to : ℕ) (parts : List Part) → AreParts from to parts → from ≤ to
parts_order from to [] a = omega arith
parts_order from to (x ∷ parts) a = let more = parts_order (from + x.count) to parts a.2 in omega arith

-- Parts are of the chunks up to which they come.
pub parts_within : (from to : ℕ) (parts : List Part) → AreParts from to parts → All (IsPart to) parts
parts_within from to [] a = All-nil (IsPart to)
parts_within from to (x ∷ parts) a =
    let more = parts_order (from + x.count) to parts a.2 in
    let first = a.0 in
    All-cons (IsPart to) x parts (record { some = a.1; within = omega arith }) (parts_within (from + x.count) to parts a.2)

-- ---- runs
pub runs_given : (p : ScriptPlan) (limit : ℕ) (chunks : List Chunk) (from to : ℕ) (parts : List Part) (runs : List PartRun) → AreParts from to parts → AllZip (IsRunOf p limit chunks) parts runs
    → AreRuns p limit chunks from to runs
runs_given p limit chunks from to [] [] a z = a
runs_given p limit chunks from to [] (ran ∷ runs) a z = absurd z
runs_given p limit chunks from to (part ∷ parts) [] a z = absurd z
runs_given p limit chunks from to (part ∷ parts) (ran ∷ runs) a z = (
  ap (λ (x : Part). x.first) z.0.0 ∙ a.0,
  z.0.1,
  subst (λ (x : Part). AreRuns p limit chunks (from + x.count) to runs) (sym z.0.0) (runs_given p limit chunks (from + part.count) to parts runs a.2 z.1),
)

-- Each run fits the script.
pub runs_fit : (p : ScriptPlan) (limit : ℕ) (chunks : List Chunk) (from to : ℕ) (runs : List PartRun) → AreRuns p limit chunks from to runs → All (λ ran. GroupsFit p ran.run.groups) runs
runs_fit p limit chunks from to [] a = All-nil (λ ran. GroupsFit p ran.run.groups)
runs_fit p limit chunks from to (ran ∷ runs) a =
    All-cons (λ x. GroupsFit p x.run.groups) ran runs a.1.stands.fits (runs_fit p limit chunks (from + ran.part.count) to runs a.2)

-- Of runs that fit each one does.
pub run_fits : (p : ScriptPlan) (before : List PartRun) (ran : PartRun) (rest : List PartRun) → All (λ (one : PartRun). GroupsFit p one.run.groups) (before ++ ran ∷ rest) → GroupsFit p ran.run.groups
run_fits p [] ran rest h = All-head (λ (one : PartRun). GroupsFit p one.run.groups) ran rest h
run_fits p (first ∷ before) ran rest h = run_fits p before ran rest (All-tail (λ (one : PartRun). GroupsFit p one.run.groups) first (before ++ ran ∷ rest) h)

-- The runs up to a place, and the next one.
pub record IsNextRun (p : ScriptPlan) (limit : ℕ) (chunks : List Chunk) (from to : ℕ) (runs : List PartRun) (ran : PartRun) : Type 0 where
  pub mid : ℕ
  pub before : AreRuns p limit chunks from mid runs
  pub first : ran.part.first ≡ mid
  pub is : IsRun p limit chunks ran
  pub end : mid + ran.part.count ≡ to

pub next_run : (p : ScriptPlan) (limit : ℕ) (chunks : List Chunk) (from to : ℕ) (runs : List PartRun) (ran : PartRun) → AreRuns p limit chunks from to (runs ++ ran ∷ []) → IsNextRun p limit chunks from to runs ran
next_run p limit chunks from to [] ran a = record { mid = from; before = refl; first = a.0; is = a.1; end = a.2 }
next_run p limit chunks from to (x ∷ runs) ran a =
    let later = next_run p limit chunks (from + x.part.count) to runs ran a.2 in
    record { mid = later.mid; before = (a.0, a.1, later.before); first = later.first; is = later.is; end = later.end }

-- The runs up to a place among more.
pub record AreFirstRuns (p : ScriptPlan) (limit : ℕ) (chunks : List Chunk) (from : ℕ) (runs : List PartRun) : Type 0 where
  pub to : ℕ
  pub are : AreRuns p limit chunks from to runs

pub first_runs : (p : ScriptPlan) (limit : ℕ) (chunks : List Chunk) (from to : ℕ) (runs rest : List PartRun) → AreRuns p limit chunks from to (runs ++ rest) → AreFirstRuns p limit chunks from runs
first_runs p limit chunks from to [] rest a = record { to = from; are = refl }
first_runs p limit chunks from to (x ∷ runs) rest a =
    let more = first_runs p limit chunks (from + x.part.count) to runs rest a.2 in record { to = more.to; are = (a.0, a.1, more.are) }

-- One among others.
pub all_mid : {A : Type 0} (P : A → Type 0) (before : List A) (x : A) (rest : List A) → All P (before ++ x ∷ rest) → P x
all_mid P [] x rest h = All-head P x rest h
all_mid P (y ∷ before) x rest h = all_mid P before x rest (All-tail P y (before ++ x ∷ rest) h)

-- ---- starts
-- What a run of all chunks found.
found_whole : (p : ScriptPlan) (limit : ℕ) (chunks : List Chunk) (run : Run) → IsFromTo 0 (length chunks) run → StandsForChunks p limit chunks run → HasFound p limit (all_records p chunks) run.bad run.groups
found_whole p limit chunks run ends h =
    let from = ends.from in
    let to = ends.to in
    let whole : slice_range chunks run.lo run.hi ≡ chunks = rw (from, to) (take_all (length chunks - 0) chunks (omega arith)) in
    subst (λ (cs : List Chunk). HasFound p limit (all_records p cs) run.bad run.groups) whole h.found

done_from : (p : ScriptPlan) (limit : ℕ) (found : Found) (run : Run) (old given new starts : Pairs) (applied : Applied) → HasFound p limit found run.bad run.groups → applied ≡ applied_to p found given → given ≡ old
    → applied ≡ applying.Done new → starts ≡ starts_of old (keys_of run.groups) → StartsFrom p found old (started.From starts) new
done_from p limit (Ok records) run old given new starts applied h is same done e =
    let led : new ≡ after_records p records given = cc in (e ∙ ap (starts_of old) h.2.keys_are, led ∙ ap (after_records p records) same)
done_from p limit (Err why) run old given new starts applied h is same done e = absurd (cc)

bad_from : (p : ScriptPlan) (found : Found) (old given new : Pairs) (bad : BadRow) (applied : Applied) → applied ≡ applied_to p found given → applied ≡ applying.Bad bad → StartsFrom p found old (started.Bad bad) new
bad_from p (Ok records) old given new bad applied is broken = absurd (cc)
bad_from p (Err why) old given new bad applied is broken = cc

-- A run is applied after its starts are taken.
pub started_done : (p : ScriptPlan) (limit : ℕ) (chunks : List Chunk) (run : Run) (old given new starts : List (Key × Outcome)) (applied : Applied) → IsFromTo 0 (length chunks) run → StandsForChunks p limit chunks run
    → bad_of applied ≡ run.bad → ((records : List Record) → GroupsStandFor p records run.groups → IfDone applied (λ g. g ≡ after_records p records given)) → given ≡ old
    → applied ≡ applying.Done new → starts ≡ starts_of old (keys_of run.groups) → StartsFrom p (all_records p chunks) old (started.From starts) new
started_done p limit chunks run old given new starts applied ends h bad groups same done e =
    done_from p limit (all_records p chunks) run old given new starts applied (found_whole p limit chunks run ends h) (applied_all p limit chunks run given applied h ends bad groups) same done e

pub started_bad : (p : ScriptPlan) (limit : ℕ) (chunks : List Chunk) (run : Run) (old given new : List (Key × Outcome)) (why : BadRow) (applied : Applied) → IsFromTo 0 (length chunks) run → StandsForChunks p limit chunks run
    → bad_of applied ≡ run.bad → ((records : List Record) → GroupsStandFor p records run.groups → IfDone applied (λ g. g ≡ after_records p records given))
    → applied ≡ applying.Bad why → StartsFrom p (all_records p chunks) old (started.Bad why) new
started_bad p limit chunks run old given new why applied ends h bad groups broken =
    bad_from p (all_records p chunks) old given new why applied (applied_all p limit chunks run given applied h ends bad groups) broken

-- Parts are started up to a place: the groups are led on by the records before it.
pub record IsStarting (p : ScriptPlan) (every : ℕ) (chunks : List Chunk) (to : ℕ) (first groups : List (Key × Outcome)) (parts : List PartStarts) : Type 0 where
  pub records : List Record
  pub are : all_records p chunks ≡ in_turn (Ok records) (all_records p (drop to chunks))
  pub led : groups ≡ after_records p records first
  pub ready : All (IsReady p chunks) parts
  pub rows : flat_map (part_rows p every chunks) parts ≡ rows_after p every (from_groups p first) [] records

pub starting_none : (p : ScriptPlan) (every : ℕ) (chunks : List Chunk) (groups : List (Key × Outcome)) → IsStarting p every chunks 0 groups groups []
starting_none p every chunks groups = record {
  records = [];
  are = none_before (all_records p chunks);
  led = refl;
  ready = All-nil (IsReady p chunks);
  rows = refl;
}

-- What was found of the chunks from a part on: of the part's, and then of the others.
part_next : (p : ScriptPlan) (chunks : List Chunk) (part : Part)
    → all_records p (drop part.first chunks) ≡ in_turn (all_records p (part_chunks chunks part)) (all_records p (drop (part.first + part.count) chunks))
part_next p chunks part =
    ap (all_records p) (drop_split chunks part.first (part.first + part.count) (omega arith))
    ∙ all_records-append p (part_chunks chunks part) (drop (part.first + part.count) chunks)

-- The rows of a part from its starts, which are those from all groups.
rows_of_part : (p : ScriptPlan) (every : ℕ) (chunks : List Chunk) (ready : PartStarts) (records : List Record) (groups : Pairs) → all_records p (part_chunks chunks ready.part) ≡ Ok records
    → ready.starts ≡ starts_of groups (keys p records) → part_rows p every chunks ready ≡ rows_after p every (from_groups p groups) [] records
rows_of_part p every chunks ready records groups are starts =
    ap (λ (found : Found). replayed_rows (replayed_to p every ready.starts found)) are
    ∙ ap (λ (gs : Pairs). rows_after p every (from_groups p gs) [] records) starts
    ∙ rows_started p every groups records

-- A part more.
pub starting_on : (p : ScriptPlan) (every : ℕ) (chunks : List Chunk) (part : Part) (starts : List (Key × Outcome)) (first old new : List (Key × Outcome)) (parts : List PartStarts)
    → IsPart (length chunks) part → IsStarting p every chunks part.first first old parts → StartsFrom p (all_records p (part_chunks chunks part)) old (started.From starts) new
    → IsStarting p every chunks (part.first + part.count) first new (parts ++ record { part = part; starts = starts } ∷ [])
starting_on p every chunks part starts first old new parts is h s = of (all_records p (part_chunks chunks part)) refl s
  where
    of : (found : Found) → all_records p (part_chunks chunks part) ≡ found → StartsFrom p found old (started.From starts) new
        → IsStarting p every chunks (part.first + part.count) first new (parts ++ record { part = part; starts = starts } ∷ [])
    of (Err why) e s = absurd s
    of (Ok next) e s =
        let ready : PartStarts = record { part = part; starts = starts } in
        let mine : part_rows p every chunks ready ≡ rows_after p every (from_groups p (after_records p h.records first)) [] next =
        rows_of_part p every chunks ready next old e s.0 ∙ ap (λ (gs : Pairs). rows_after p every (from_groups p gs) [] next) h.led in
        record {
          records = h.records ++ next;
          are =
              h.are
              ∙ ap (in_turn (Ok h.records)) (part_next p chunks part ∙ ap (λ (f : Found). in_turn f (all_records p (drop (part.first + part.count) chunks))) e)
              ∙ both_before h.records next (all_records p (drop (part.first + part.count) chunks));
          led = s.1 ∙ ap (after_records p next) h.led ∙ records_on p h.records next first;
          ready = All-push (IsReady p chunks) parts ready h.ready (record { within = is.within; records = next; are = e });
          rows =
              flat_map-append (part_rows p every chunks) parts (ready ∷ [])
              ∙ ap₂ (λ (xs ys : List TraceRow). xs ++ ys) h.rows (append-nil (part_rows p every chunks ready) ∙ mine)
              ∙ sym (rows_then p every first h.records next);
        }

-- A part with a row that is no record.
pub starting_bad : (p : ScriptPlan) (every : ℕ) (chunks : List Chunk) (part : Part) (bad : BadRow) (first old new : List (Key × Outcome)) (parts : List PartStarts)
    → IsStarting p every chunks part.first first old parts → StartsFrom p (all_records p (part_chunks chunks part)) old (started.Bad bad) new → StartsAll p every chunks (all_records p chunks) first (all_started.Bad bad) new
starting_bad p every chunks part bad first old new parts h s = of (all_records p (part_chunks chunks part)) refl s
  where
    of : (found : Found) → all_records p (part_chunks chunks part) ≡ found → StartsFrom p found old (started.Bad bad) new → StartsAll p every chunks (all_records p chunks) first (all_started.Bad bad) new
    of (Ok next) e s = absurd s
    of (Err why) e s =
        let all : all_records p chunks ≡ Err why =
        h.are ∙ ap (in_turn (Ok h.records)) (part_next p chunks part ∙ ap (λ (f : Found). in_turn f (all_records p (drop (part.first + part.count) chunks))) e) in
        subst (λ (f : Found). StartsAll p every chunks f first (all_started.Bad bad) new) (sym all) s

-- All parts are started.
pub starting_all : (p : ScriptPlan) (every : ℕ) (chunks : List Chunk) (first groups : List (Key × Outcome)) (parts : Vec PartStarts Global) → IsStarting p every chunks (length chunks) first groups parts.items
    → StartsAll p every chunks (all_records p chunks) first (all_started.From parts) groups
starting_all p every chunks first groups parts h =
    let all : all_records p chunks ≡ Ok h.records =
    h.are ∙ ap (λ (cs : List Chunk). in_turn (Ok h.records) (all_records p cs)) (drop_all (length chunks) chunks (omega arith)) ∙ ap Ok (append-nil h.records) in
    subst (λ (f : Found). StartsAll p every chunks f first (all_started.From parts) groups) (sym all) (h.ready, h.rows, h.led)

-- What a run comes to whose first and last numbers are these.
pub run_ended : {E : Type 0} (lo hi to : ℕ) (r : Result Run E) → lo ≡ 0 → hi ≡ to → IfOk r (IsFromTo lo hi) → IfOk r (IsFromTo 0 to)
run_ended lo hi to (Ok run) from until ends = record { from = ends.from ∙ from; to = ends.to ∙ until }
run_ended lo hi to (Err e) from until ends = tt
