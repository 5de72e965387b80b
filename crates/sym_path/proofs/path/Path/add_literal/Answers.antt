use Rattle.std.proofs.Common.{◌≡◌, ℕ, Some, refl}
use Rattle.std.proofs.lemmas.List.{set-set}
use Rattle.std.specs.Prelude.{slice_get, slice_set}
use Rattle.sym_check.specs.Plan.ScriptPlans.{script_plan}
use Rattle.sym_path.specs.declared.part.Part.TheVariants as part
use Rattle.sym_path.specs.declared.path.Path.{Path}
use Rattle.sym_path.proofs.AddedLiterals.{literal_fits, literal_gives}
use Rattle.sym_path.proofs.path.Path.add_literal.Goals as goal

pub returns-in_ok-longer-clause-fits : goal.returns-in_ok-longer-clause-fits
returns-in_ok-longer-clause-fits c =
    let old : Path = c.args.self.now in
    let new : Path = record { when = c.set.new.self; end = old.end } in
    let k : ℕ = c.args.cell in
    let known : slice_get old.when k ≡ Some (part.Facts c.in-Some-Facts.facts) = cc in
    let w : c.set.new.self ≡ slice_set old.when k (part.Facts c.in_ok-longer.longer) = let twice = set-set old.when k part.Free (part.Facts c.in_ok-longer.longer) in cc in
    literal_fits (script_plan c.args._plan.now) k c.in-Some-Facts.facts c.args.literal c.in_ok-longer.longer old new c.requires.suits known c.in_ok-longer.ensures.facts w refl c.requires.fits

pub returns-in_ok-longer-clause-gives : goal.returns-in_ok-longer-clause-gives
returns-in_ok-longer-clause-gives c =
    let old : Path = c.args.self.now in
    let new : Path = record { when = c.set.new.self; end = old.end } in
    let k : ℕ = c.args.cell in
    let known : slice_get old.when k ≡ Some (part.Facts c.in-Some-Facts.facts) = cc in
    let w : c.set.new.self ≡ slice_set old.when k (part.Facts c.in_ok-longer.longer) = let twice = set-set old.when k part.Free (part.Facts c.in_ok-longer.longer) in cc in
    literal_gives k c.in-Some-Facts.facts c.args.literal c.in_ok-longer.longer old new known c.in_ok-longer.ensures.admits w refl
