use Rattle.std.proofs.Common.{◌≡◌, ◌≤◌, ℕ, Vec, Global, Some, List, arith, inr, length, map, slice_get, subst, take, Result}
use Rattle.std.proofs.lemmas.List.{length-map, take_all}
use Rattle.std.proofs.lemmas.List.Elements.{All-map}
use Rattle.std.specs.List.{All}
use Rattle.std.specs.Result.{IfErr}
use Rattle.sym_check.specs.Checking.CheckedScripts.{checked_plan}
use Rattle.sym_check.specs.Plan.WellFormed.{IsWellFormed}
use Rattle.sym_files.proofs.FileByFile.{name_at}
use Rattle.sym_file.specs.SavedTexts.{printed}
use Rattle.sym_reduce.specs.Joining.{AreFilesJoined}
use Rattle.sym_reduce.proofs.JoiningFiles.{files_on, no_files, size_at}
use Rattle.sym_reduce.proofs.joins.join_turn.Goals as goal

pub texts-preserved : goal.texts-preserved
texts-preserved c =
    let p = checked_plan c.args.checked.now in
    let formed : IsWellFormed p = subst IsWellFormed c.plan-plan.ensures.same c.plan-plan.ensures.well_formed in
    let script = printed c.args.checked.now in
    let texts = c.args.texts.now in
    let files : List (List ℕ) = map (λ (text : Vec ℕ Global). text.items) texts in
    let k = c.texts.file in
    let bytes = c.as_slice.result.now in
    let at : slice_get files k ≡ Some bytes = name_at (λ (text : Vec ℕ Global). text.items) texts k c.index-texts-file.result bytes c.texts-test.true c.index-texts-file.is c.as_slice.ensures.value in
    record {
      joining = λ max sizes.
          let each = All-map (λ (bytes : List ℕ). length bytes ≤ max) (λ (text : Vec ℕ Global). text.items) texts sizes in
          files_on script p max c.args.limit formed files k c.texts.joined bytes c.in_ok-more.more (c.texts.invariant.joining max sizes) at (size_at script p max c.args.limit files k bytes each at) c.in_ok-more.ensures.joins
          c.in_ok-more.ensures.joinable;
      able = c.in_ok-more.ensures.joinable;
    }

pub returns-clause-joined : goal.returns-clause-joined
returns-clause-joined c = λ max sizes.
    let p = checked_plan c.args.checked.now in
    let files : List (List ℕ) = map (λ (text : Vec ℕ Global). text.items) c.args.texts.now in
    let few : length files ≤ c.texts.file = simp length-map (omega arith) in
    subst (λ (fs : List (List ℕ)). AreFilesJoined (printed c.args.checked.now) p max c.args.limit fs c.texts.joined) (take_all c.texts.file files few) (c.texts.invariant.joining max sizes)
