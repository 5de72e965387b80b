-- What a round comes to, by its parts.
use Rattle.std.proofs.Common.{◌≡◌, ◌∙◌, ap, ap₂, sym, refl, subst, ℕ, List, [], ◌∷◌, ◌++◌, None, Some, Result, Ok, Err, IfOk, Vec, Global}
use Rattle.std.specs.List.{All, AllZip, flat_map}
use Rattle.sym_base.specs.declared.values.value.Key.{Key}
use Rattle.sym_base.specs.declared.values.record.Record.{Record}
use Rattle.sym_base.specs.declared.values.state.Outcome.{Outcome}
use Rattle.sym_check.specs.Meaning.Groups.{pass}
use Rattle.sym_check.specs.Plan.ScriptPlans.{ScriptPlan}
use Rattle.sym_check.specs.Plan.WellFormed.{IsWellFormed}
use Rattle.sym_plain.specs.Pairs.{after_records}
use Rattle.sym_plain.proofs.Apart.{pass_more}
use Rattle.sym_plain.proofs.Valid.{records_valid}
use Rattle.sym_run.specs.Applying.{AreValid}
use Rattle.sym_table.specs.declared.bad.Bad.{Bad as BadRow}
use Rattle.sym_table.specs.declared.chunk.Chunk.{Chunk}
use Rattle.sym_table.specs.ChunkRecords.{all_records}
use Rattle.sym_table.specs.Rows.{FitsChunk}
use Rattle.sym_scan.specs.declared.replays.Progress.{Progress}
use Rattle.sym_scan.specs.declared.rows.TraceRow.{TraceRow}
use Rattle.sym_scan.specs.declared.scan.Scanned.{Scanned}
use Rattle.sym_scan.specs.declared.scan.Scanned.TheVariants.{Done, Bad}
use Rattle.sym_scan.specs.declared.part_starts.PartStarts.{PartStarts}
use Rattle.sym_scan.specs.declared.part_starts.AllStarted.TheVariants as all_started
use Rattle.sym_scan.specs.Parts.{IsReady, StartsAll, part_rows}
use Rattle.sym_scan.specs.Replays.{GoesOn}
use Rattle.sym_scan.specs.Scans.{scanned_to, traced_to}
use Rattle.sym_scan.specs.Traces.{from_groups, rows_after}
use Rattle.sym_scan.proofs.Found.{Found}
use Rattle.sym_scan.proofs.RoundRecords.{round_are}
use Rattle.sym_scan.proofs.Standing.{Pairs, trace_part}

-- ---- rows of parts
rows_zip : {A : Type 0} (f : A → List TraceRow) (parts : List A) (rows : List (List TraceRow)) → AllZip (λ part shown. shown ≡ f part) parts rows → flat_map (λ shown. shown) rows ≡ flat_map f parts
rows_zip f [] [] z = refl
rows_zip f [] (shown ∷ rows) z = absurd z
rows_zip f (part ∷ parts) [] z = absurd z
rows_zip f (part ∷ parts) (shown ∷ rows) z = ap₂ (λ (x y : List TraceRow). x ++ y) z.0 (rows_zip f parts rows z.1)

pub rows_gathered : {E : Type 0} (p : ScriptPlan) (every : ℕ) (chunks : List Chunk) (parts : List PartStarts) (rows : List (List TraceRow)) (r : Result (List TraceRow) E)
    → AllZip (λ ready shown. shown ≡ part_rows p every chunks ready) parts rows → IfOk r (λ all. all ≡ flat_map (λ shown. shown) rows) → IfOk r (λ all. all ≡ flat_map (part_rows p every chunks) parts)
rows_gathered p every chunks parts rows (Ok all) z e = e ∙ rows_zip (part_rows p every chunks) parts rows z
rows_gathered p every chunks parts rows (Err why) z e = tt

-- ---- rounds
pub all_ready : (p : ScriptPlan) (every : ℕ) (chunks : List Chunk) (found : Result (List Record) BadRow) (old new : List (Key × Outcome)) (parts : Vec PartStarts Global)
    → StartsAll p every chunks found old (all_started.From parts) new → All (IsReady p chunks) parts.items
all_ready p every chunks (Ok records) old new parts s = s.0
all_ready p every chunks (Err why) old new parts s = absurd s

pub scan_done : (p : ScriptPlan) (every : ℕ) (chunks : List Chunk) (found : Result (List Record) BadRow) (old new : List (Key × Outcome)) (parts : Vec PartStarts Global) (rows : List TraceRow)
    → StartsAll p every chunks found old (all_started.From parts) new → rows ≡ flat_map (part_rows p every chunks) parts.items → Done rows new ≡ scanned_to p every old found
scan_done p every chunks (Ok records) old new parts rows s e = ap₂ Done (e ∙ s.1) s.2
scan_done p every chunks (Err why) old new parts rows s e = absurd s

pub scan_bad : (p : ScriptPlan) (every : ℕ) (chunks : List Chunk) (found : Result (List Record) BadRow) (old new : List (Key × Outcome)) (bad : BadRow)
    → StartsAll p every chunks found old (all_started.Bad bad) new → Bad bad ≡ scanned_to p every old found
scan_bad p every chunks (Ok records) old new bad s = absurd s
scan_bad p every chunks (Err why) old new bad s = ap Bad s

-- ---- one thread
-- What goes on from all groups.
pub alone_done : (p : ScriptPlan) (every : ℕ) (found : Result (List Record) BadRow) (groups new : List (Key × Outcome)) (rows : List TraceRow) (old now : Progress) → GoesOn p every found old None now
    → old.groups ≡ groups → old.rows.items ≡ [] → rows ≡ now.rows.items → new ≡ now.groups → Done rows new ≡ scanned_to p every groups found
alone_done p every (Ok records) groups new rows old now goes from none shown after =
    ap₂ Done
    (shown ∙ goes.2 ∙ ap₂ (λ (before : List TraceRow) (gs : Pairs). before ++ rows_after p every (from_groups p gs) [] records) none from)
    (after ∙ goes.1 ∙ ap (after_records p records) from)
alone_done p every (Err why) groups new rows old now goes from none shown after = absurd (cc)

pub alone_bad : (p : ScriptPlan) (every : ℕ) (found : Result (List Record) BadRow) (groups : List (Key × Outcome)) (bad : BadRow) (old now : Progress) → GoesOn p every found old (Some bad) now → Bad bad ≡ scanned_to p every groups found
alone_bad p every (Ok records) groups bad old now goes = let none = goes.0 in absurd (cc)
alone_bad p every (Err why) groups bad old now goes = let same : bad ≡ why = cc in ap Bad same

-- The groups after records of chunks that fit are valid.
pub alone_valid : (p : ScriptPlan) (every : ℕ) (chunks : List Chunk) (new : List (Key × Outcome)) (old now : Progress) → IsWellFormed p → All (FitsChunk p.fields) chunks
    → AreValid p old.groups → GoesOn p every (all_records p chunks) old None now → new ≡ now.groups → AreValid p new
alone_valid p every chunks new old now well fit valid goes after = of (all_records p chunks) refl goes
  where
    of : (found : Found) → all_records p chunks ≡ found → GoesOn p every found old None now → AreValid p new
    of (Ok records) are goes = subst (AreValid p) (sym (after ∙ goes.1)) (records_valid p records old.groups well (round_are p chunks records well fit are) valid)
    of (Err why) are goes = absurd (cc)

-- ---- traces
-- What groups come to that are the pass over some records.
traced : (p : ScriptPlan) (every : ℕ) (before : List Record) (found : Found) → scanned_to p every (pass p before) found ≡ traced_to p every before found
traced p every before (Ok records) = ap₂ Done (sym (trace_part p every before records)) (pass_more p before records)
traced p every before (Err why) = refl

pub scan_traces : {E : Type 0} (p : ScriptPlan) (every : ℕ) (groups : List (Key × Outcome)) (before : List Record) (found : Result (List Record) BadRow) (r : Result Scanned E) → groups ≡ pass p before
    → IfOk r (λ s. s ≡ scanned_to p every groups found) → IfOk r (λ s. s ≡ traced_to p every before found)
scan_traces p every groups before found (Ok s) same e = e ∙ ap (λ (gs : Pairs). scanned_to p every gs found) same ∙ traced p every before found
scan_traces p every groups before found (Err why) same e = tt
