-- Which bytes are the text of a saved run, and what reading them comes to.
use Rattle.std.specs.Prelude.{◌≡◌, ◌≢◌, ℕ, List, ◌++◌, Result, Ok, Err}
use Rattle.sym_check.specs.Checking.CheckedScripts.{checked_tree}
use Rattle.sym_check.specs.Plan.ScriptPlans.{ScriptPlan}
use Rattle.sym_check.specs.declared.checked.accepted.Checked.{Checked}
use Rattle.sym_parse.specs.Printed.{script_text}
use Rattle.sym_run.specs.SavedRuns.{IsLawfulSaved}
use Rattle.sym_run.specs.declared.saved.Saved.{Saved}
use Rattle.sym_file.specs.Stored.{IsStored}
use Rattle.sym_file.specs.Texts.{head_text, saved_text}
use Rattle.sym_file.specs.declared.saved_err.SavedErr.{SavedErr}
use Rattle.sym_file.specs.declared.saved_err.SavedErr.TheVariants as error

-- The script's printed form.
abbrev pub printed : Checked → List ℕ
printed checked = script_text (checked_tree checked)

-- The saved run is a lawful one of this plan, and the bytes are its text, with this printed form of
-- the script.
pub record IsSaved (script : List ℕ) (p : ScriptPlan) (bytes : List ℕ)
    (saved : Saved) : Type 0 where
  pub lawful : IsLawfulSaved p saved
  pub text : bytes ≡ saved_text script saved

-- The bytes begin with the first two lines, at least as many bytes follow as the second line names,
-- and that many aren't this script.
pub record IsOfOtherScript (script bytes : List ℕ) : Type 0 where
  pub other : List ℕ
  pub rest : List ℕ
  pub parts : bytes ≡ head_text other ++ rest
  pub differs : other ≢ script

-- The bytes are the text of no lawful saved run of this script, and aren't of another script.
pub record IsMalformed (script : List ℕ) (p : ScriptPlan) (bytes : List ℕ) : Type 0 where
  pub same : IsOfOtherScript script bytes → ⊥
  pub none : (saved : Saved) → IsStored saved → IsSaved script p bytes saved → ⊥

-- What reading bytes comes to.
abbrev pub IsReadTo : List ℕ → ScriptPlan → List ℕ → Result Saved SavedErr → Type 0
IsReadTo script p bytes (Ok saved) = IsSaved script p bytes saved
IsReadTo script p bytes (Err error.OtherScript) = IsOfOtherScript script bytes
IsReadTo script p bytes (Err error.Malformed) = IsMalformed script p bytes
IsReadTo script p bytes (Err error.NoMemory) = Unit {0}

-- This saved run was read, unless memory ran out.
abbrev pub IsReadAs : Saved → Result Saved SavedErr → Type 0
IsReadAs saved (Ok run) = run ≡ saved
IsReadAs saved (Err error.OtherScript) = ⊥
IsReadAs saved (Err error.Malformed) = ⊥
IsReadAs saved (Err error.NoMemory) = Unit {0}
