-- What a run of all chunks comes to on groups.
use Rattle.std.proofs.Common.{◌≡◌, ◌∙◌, ap, sym, subst, arith, ℕ, ◌-◌, List, Option, Result, Ok, Err, length}
use Rattle.std.proofs.lemmas.List.{take_all}
use Rattle.std.specs.Prelude.{slice_range}
use Rattle.sym_base.specs.declared.values.value.Key.{Key}
use Rattle.sym_base.specs.declared.values.record.Record.{Record}
use Rattle.sym_base.specs.declared.values.state.Outcome.{Outcome}
use Rattle.sym_check.specs.Plan.ScriptPlans.{ScriptPlan}
use Rattle.sym_plain.specs.Pairs.{after_records}
use Rattle.sym_run.specs.Chained.{Chained}
use Rattle.sym_table.specs.declared.bad.Bad.{Bad as BadRow}
use Rattle.sym_table.specs.declared.chunk.Chunk.{Chunk}
use Rattle.sym_table.specs.ChunkRecords.{all_records}
use Rattle.sym_run.specs.declared.runs.Applied.{Applied}
use Rattle.sym_run.specs.declared.runs.Applied.TheVariants.{Done, Bad}
use Rattle.sym_run.specs.declared.runs.Run.{Run}
use Rattle.sym_run.specs.Applying.{IfDone, IsApplied, applied_to, bad_of}
use Rattle.sym_run.specs.Runs.{GroupsStandFor, HasFound, IsFromTo, StandsForChunks}

applied_found : (p : ScriptPlan) (limit : ℕ) (found : Result (List Record) BadRow) (bad : Option BadRow) (chains : List (Key × Chained)) (groups : List (Key × Outcome)) (applied : Applied)
    → HasFound p limit found bad chains → bad_of applied ≡ bad
    → ((records : List Record) → GroupsStandFor p records chains → IfDone applied (λ g. g ≡ after_records p records groups))
    → applied ≡ applied_to p found groups
applied_found p limit (Ok records) bad chains groups (Done g) h e done = ap Done (done records h.2)
applied_found p limit (Ok records) bad chains groups (Bad b) h e done = let none = h.0 in cc
applied_found p limit (Err first) bad chains groups (Done g) h e done = cc
applied_found p limit (Err first) bad chains groups (Bad b) h e done = let same : b ≡ first = cc in ap Bad same

pub applied_all : (p : ScriptPlan) (limit : ℕ) (chunks : List Chunk) (run : Run) (groups : List (Key × Outcome)) (applied : Applied) → StandsForChunks p limit chunks run → IsFromTo 0 (length chunks) run
    → bad_of applied ≡ run.bad → ((records : List Record) → GroupsStandFor p records run.groups → IfDone applied (λ g. g ≡ after_records p records groups))
    → applied ≡ applied_to p (all_records p chunks) groups
applied_all p limit chunks run groups applied h ends bad done =
    let from = ends.from in
    let to = ends.to in
    let whole : slice_range chunks run.lo run.hi ≡ chunks = rw (from, to) (take_all (length chunks - 0) chunks (omega arith)) in
    applied_found p limit (all_records p chunks) run.bad run.groups groups applied
    (subst (λ (cs : List Chunk). HasFound p limit (all_records p cs) run.bad run.groups) whole h.found) bad done

-- What a run comes to on groups, whatever chunks it stands for.
applied_is : (p : ScriptPlan) (limit : ℕ) (chunks : List Chunk) (run : Run) (groups : List (Key × Outcome)) (applied : Applied) → StandsForChunks p limit chunks run → IsApplied p run groups applied
    → applied ≡ applied_to p (all_records p (slice_range chunks run.lo run.hi)) groups
applied_is p limit chunks run groups applied h is =
    applied_found p limit (all_records p (slice_range chunks run.lo run.hi)) run.bad run.groups groups applied h.found is.bad is.led

pub runs_agree : (p : ScriptPlan) (limit other_limit : ℕ) (chunks others : List Chunk) (run other : Run) (groups : List (Key × Outcome)) (applied answer : Applied)
    → all_records p (slice_range chunks run.lo run.hi) ≡ all_records p (slice_range others other.lo other.hi) → StandsForChunks p limit chunks run → StandsForChunks p other_limit others other
    → IsApplied p run groups applied → IsApplied p other groups answer → applied ≡ answer
runs_agree p limit other_limit chunks others run other groups applied answer same h k is also =
    applied_is p limit chunks run groups applied h is
    ∙ ap (λ (found : Result (List Record) BadRow). applied_to p found groups) same
    ∙ sym (applied_is p other_limit others other groups answer k also)

pub whole_applied : (p : ScriptPlan) (limit : ℕ) (chunks : List Chunk) (run : Run) (groups : List (Key × Outcome)) (applied : Applied) → StandsForChunks p limit chunks run → IsFromTo 0 (length chunks) run → IsApplied p run groups applied
    → applied ≡ applied_to p (all_records p chunks) groups
whole_applied p limit chunks run groups applied h ends is = applied_all p limit chunks run groups applied h ends is.bad is.led
