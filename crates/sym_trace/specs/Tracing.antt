-- Traces over files, whose rows go to a form round by round.
use Rattle.std.specs.Prelude.{◌≡◌, ◌≤◌, ℕ, Bool, List, [], ◌++◌}
use Rattle.sym_base.specs.declared.values.record.Record.{Record}
use Rattle.sym_base.specs.declared.values.value.Key.{Key}
use Rattle.sym_base.specs.declared.values.state.Outcome.{Outcome}
use Rattle.sym_base.specs.Trees.{ScriptTree, Done}
use Rattle.sym_check.specs.Meaning.Groups.{pass}
use Rattle.sym_check.specs.Plan.ScriptPlans.{ScriptPlan}
use Rattle.sym_report.specs.declared.rows.Heads.{Heads}
use Rattle.sym_report.specs.Forms.{FormTexts, report_text, rows_text}
use Rattle.sym_report.specs.ReportRows.{some_faulty}
use Rattle.sym_run.specs.Applying.{AreValid}
use Rattle.sym_files.specs.Rounds.{AreWorkers}
use Rattle.sym_trace.specs.TraceReports.{trace_heads, trace_rows}

-- The report of the trace of these records, in a form with these texts, was appended to what the
-- form had before, and `faulty` says whether one of its rows is faulty.
pub record IsTraceReport (tree : ScriptTree) (p : ScriptPlan) (every : ℕ) (texts : FormTexts)
    (before after : List ℕ) (faulty : Bool) (records : List Record) : Type 0 where
  pub text : after
      ≡ before ++ report_text texts (trace_heads tree p) (trace_rows tree p every records)
  pub fault : faulty ≡ some_faulty (trace_rows tree p every records)

-- The same of the rows alone.
pub record AreTraceRows (tree : ScriptTree) (p : ScriptPlan) (every : ℕ) (texts : FormTexts)
    (before after : List ℕ) (faulty : Bool) (records : List Record) : Type 0 where
  pub text : after
      ≡ before ++ rows_text texts (trace_heads tree p) (trace_rows tree p every records)
  pub fault : faulty ≡ some_faulty (trace_rows tree p every records)

-- What stays the same from round to round: the script's tree, which numbers are shown, the texts of
-- the form, and the bytes that the form had before any row.
pub record Tracing : Type 0 where
  pub tree : ScriptTree
  pub every : ℕ
  pub texts : FormTexts
  pub begun : List ℕ

-- A value of it, of which nothing is asked.
abbrev pub some_tracing : Tracing
some_tracing = record {
  tree = record {
    enums = [];
    fields = [];
    group = [];
    states = [];
    tests = [];
    update = Done;
    columns = [];
  };
  every = 1;
  texts = record { begin = λ heads. []; row = λ heads row. []; end = λ heads. [] };
  begun = [];
}

-- What is seen of a value that takes the rounds of a trace: its script, the names above its rows,
-- which numbers it shows, its workers, its groups, its form, and whether a row was faulty.
pub record Tracer : Type 0 where
  pub tree : ScriptTree
  pub plan : ScriptPlan
  pub heads : Heads
  pub every : ℕ
  pub workers : ℕ
  pub groups : List (Key × Outcome)
  pub texts : FormTexts
  pub gathered : List ℕ
  pub faulty : Bool

-- It goes by what stays the same, its groups are the pass over these records, and the rows of their
-- trace were appended.
pub record IsTracing (by : Tracing) (p : ScriptPlan) (seen : Tracer)
    (records : List Record) : Type 0 where
  pub tree : seen.tree ≡ by.tree
  pub plan : seen.plan ≡ p
  pub heads : seen.heads ≡ trace_heads by.tree p
  pub every : seen.every ≡ by.every
  pub texts : seen.texts ≡ by.texts
  pub some : 1 ≤ seen.every
  pub workers : AreWorkers seen.workers
  pub passed : seen.groups ≡ pass p records
  pub valid : AreValid p seen.groups
  pub rows : AreTraceRows by.tree p by.every by.texts by.begun seen.gathered seen.faulty records
