use Rattle.std.proofs.Common.{◌∙◌, refl, ap, ◌++◌, Result, Ok, Err}
use Rattle.sym_base.specs.declared.values.memory.NoMemory.{NoMemory}
use Rattle.sym_check.specs.Checking.CheckedScripts.{checked_plan}
use Rattle.sym_files.specs.declared.rounds.Took.TheVariants as took
use Rattle.sym_files.specs.Rounds.{stands_by}
use Rattle.sym_files.specs.declared.rounds.Took.{Took}
use Rattle.sym_files.specs.Taking.{full_round, rows_left}
use Rattle.sym_files.specs.Telling.{TellsRows, tells_by}
use Rattle.sym_files.proofs.ToldRows.{ahead_told, ahead_told_on, ahead_told_ends, ahead_told_bad, ahead_told_refused, none_told, told_as, between_as, refused_as}
use Rattle.sym_files.proofs.Walks.{ahead_begins, ahead_on, ahead_stops, ahead_ends, ahead_fewer, took_as, taken_as, none_are, some_are}
use Rattle.sym_files.proofs.one_file.take_rounds.Goals as goal

pub rounds-init : goal.rounds-init
rounds-init g c =
    let p = checked_plan c.args.work.now.checked in
    let stood = stands_by g.W.Way.stands p c.args.work.now.limit in
    record {
      checked = c.cut_round.ensures.checked;
      limit = c.cut_round.ensures.limit;
      shown = refl;
      ahead =
          ahead_begins stood p (g.W.Way.shown c.args.rounds.now) c.args.rounds.now c.args.cutter.now c.cut_round.new.cutter c.cut_round.new.work.chunks
          c.requires.left c.in_ok-cut_round.ensures.cut;
      told = λ start before at.
          ahead_told (tells_by g.W.Way.told p start) p (g.W.Way.shown c.args.rounds.now) before c.args.rounds.now c.args.cutter.now c.cut_round.new.cutter c.cut_round.new.work.chunks
          c.requires.left c.in_ok-cut_round.ensures.cut at;
    }

pub rounds-preserved : goal.rounds-preserved
rounds-preserved g c =
    let p = checked_plan c.args.work.now.checked in
    let limit = c.args.work.now.limit in
    let old = c.args.cutter.now in
    let shown = g.W.Way.shown c.args.rounds.now in
    let is = c.rounds.invariant in
    let cuts = c.rounds.work.chunks in
    record {
      checked = c.take_on.ensures.checked ∙ is.checked;
      limit = c.take_on.ensures.same ∙ is.limit;
      shown = c.take_on.ensures.shown ∙ is.shown;
      ahead =
          ahead_on (stands_by g.W.Way.stands p limit) p old.header shown old.next_no (rows_left old) c.args.rounds.now c.rounds.rounds c.take_on.new.rounds
          c.rounds.cutter c.take_on.new.cutter cuts c.take_on.new.work.chunks is.ahead
          (took_as g.W.Way.stands (checked_plan c.rounds.work.checked) p c.rounds.work.limit limit (g.W.Way.shown c.rounds.rounds) shown cuts
          c.rounds.rounds c.take_on.new.rounds c.in_ok-take_on.field-0 took.Done is.checked is.limit is.shown c.in-Done.is c.in_ok-take_on.ensures.takes)
          (taken_as c.in_ok-take_on.field-0 _ c.in-Done.is c.in_ok-take_on.ensures.next);
      told = λ start before at.
          let t = is.told start before at in
          ahead_told_on (tells_by g.W.Way.told p start) p old.header shown (full_round old.chunk) old.next_no (rows_left old) before c.rounds.rounds c.take_on.new.rounds
          c.rounds.cutter c.take_on.new.cutter cuts c.take_on.new.work.chunks t (some_are cuts c.is_empty.result c.rounds-test.true c.is_empty.ensures)
          (told_as g.W.Way.told (checked_plan c.rounds.work.checked) p start (g.W.Way.shown c.rounds.rounds) shown cuts (before ++ t.to.rounds) c.take_on.new.rounds
          (Ok c.in_ok-take_on.field-0) (Ok took.Done) is.checked is.shown (ap Ok c.in-Done.is)
          (c.in_ok-take_on.ensures.tells start (before ++ t.to.rounds)
          (between_as g.W.Way.told (checked_plan c.rounds.work.checked) p start (before ++ t.to.rounds) c.rounds.rounds is.checked t.to.told_of)))
          (taken_as c.in_ok-take_on.field-0 _ c.in-Done.is c.in_ok-take_on.ensures.next);
    }

pub rounds-smaller : goal.rounds-smaller
rounds-smaller g c =
    let p = checked_plan c.args.work.now.checked in
    let old = c.args.cutter.now in
    let shown = g.W.Way.shown c.args.rounds.now in
    ahead_fewer (stands_by g.W.Way.stands p c.args.work.now.limit) p old.header shown old.next_no (rows_left old) c.args.rounds.now c.rounds.rounds
    c.rounds.cutter c.take_on.new.cutter c.rounds.work.chunks c.take_on.new.work.chunks c.rounds.invariant.ahead
    (some_are c.rounds.work.chunks c.is_empty.result c.rounds-test.true c.is_empty.ensures)
    (taken_as c.in_ok-take_on.field-0 _ c.in-Done.is c.in_ok-take_on.ensures.next)

pub returns-clause-takes : goal.returns-clause-takes
returns-clause-takes g c =
    let p = checked_plan c.args.work.now.checked in
    let old = c.args.cutter.now in
    let shown = g.W.Way.shown c.args.rounds.now in
    ahead_ends (stands_by g.W.Way.stands p c.args.work.now.limit) p old.header shown old.next_no (rows_left old) c.args.rounds.now c.rounds.rounds
    c.rounds.cutter c.rounds.work.chunks c.rounds.invariant.ahead (none_are c.rounds.work.chunks c.is_empty.result c.rounds-test.false c.is_empty.ensures)

pub returns-in-Bad-clause-takes : goal.returns-in-Bad-clause-takes
returns-in-Bad-clause-takes g c =
    let p = checked_plan c.args.work.now.checked in
    let limit = c.args.work.now.limit in
    let old = c.args.cutter.now in
    let shown = g.W.Way.shown c.args.rounds.now in
    let is = c.rounds.invariant in
    let cuts = c.rounds.work.chunks in
    ahead_stops (stands_by g.W.Way.stands p limit) p old.header shown old.next_no (rows_left old) c.args.rounds.now c.rounds.rounds
    c.rounds.cutter cuts c.in-Bad.bad is.ahead
    (took_as g.W.Way.stands (checked_plan c.rounds.work.checked) p c.rounds.work.limit limit (g.W.Way.shown c.rounds.rounds) shown cuts
    c.rounds.rounds c.take_on.new.rounds c.in_ok-take_on.field-0 (took.Bad c.in-Bad.bad) is.checked is.limit is.shown c.in-Bad.is c.in_ok-take_on.ensures.takes)

pub returns-in_err-cut_round-clause-tells : goal.returns-in_err-cut_round-clause-tells
returns-in_err-cut_round-clause-tells g c = λ start before at.
    let p = checked_plan c.args.work.now.checked in
    let old = c.args.cutter.now in
    let told = tells_by g.W.Way.told p start in
    let shown = g.W.Way.shown c.args.rounds.now in
    let now = c.args.rounds.now in
    let P : Result Took NoMemory → Type 0 = λ r. TellsRows told p old.header shown (full_round old.chunk) old.next_no (rows_left old) before now r in
    refused_as c.from_residual.result _ P c.from_residual.ensures.1
    (λ e. none_told told p shown (full_round old.chunk) before now old e c.requires.left at)

pub returns-in_err-take_on-clause-tells : goal.returns-in_err-take_on-clause-tells
returns-in_err-take_on-clause-tells g c = λ start before at.
    let p = checked_plan c.args.work.now.checked in
    let old = c.args.cutter.now in
    let told = tells_by g.W.Way.told p start in
    let shown = g.W.Way.shown c.args.rounds.now in
    let is = c.rounds.invariant in
    let cuts = c.rounds.work.chunks in
    let new = c.take_on.new.rounds in
    let t = is.told start before at in
    let e = c.in_err-take_on.field-0.0 in
    let P : Result Took NoMemory → Type 0 = λ r. TellsRows told p old.header shown (full_round old.chunk) old.next_no (rows_left old) before new r in
    let stops =
    ahead_told_refused told p old.header shown (full_round old.chunk) old.next_no (rows_left old) before c.rounds.rounds new
    c.rounds.cutter cuts e t (some_are cuts c.is_empty.result c.rounds-test.true c.is_empty.ensures)
    (told_as g.W.Way.told (checked_plan c.rounds.work.checked) p start (g.W.Way.shown c.rounds.rounds) shown cuts (before ++ t.to.rounds) new
    (Err e) (Err e) is.checked is.shown refl
    (c.in_err-take_on.ensures.tells start (before ++ t.to.rounds)
    (between_as g.W.Way.told (checked_plan c.rounds.work.checked) p start (before ++ t.to.rounds) c.rounds.rounds is.checked t.to.told_of))) in
    refused_as c.from_residual-in_err-take_on.result _ P c.from_residual-in_err-take_on.ensures.1 (λ _. stops)

pub returns-in-Bad-clause-tells : goal.returns-in-Bad-clause-tells
returns-in-Bad-clause-tells g c = λ start before at.
    let p = checked_plan c.args.work.now.checked in
    let old = c.args.cutter.now in
    let shown = g.W.Way.shown c.args.rounds.now in
    let is = c.rounds.invariant in
    let cuts = c.rounds.work.chunks in
    let new = c.take_on.new.rounds in
    let t = is.told start before at in
    ahead_told_bad (tells_by g.W.Way.told p start) p old.header shown (full_round old.chunk) old.next_no (rows_left old) before c.rounds.rounds new
    c.rounds.cutter cuts c.in-Bad.bad t (some_are cuts c.is_empty.result c.rounds-test.true c.is_empty.ensures)
    (told_as g.W.Way.told (checked_plan c.rounds.work.checked) p start (g.W.Way.shown c.rounds.rounds) shown cuts (before ++ t.to.rounds) new
    (Ok c.in_ok-take_on.field-0) (Ok (took.Bad c.in-Bad.bad)) is.checked is.shown (ap Ok c.in-Bad.is)
    (c.in_ok-take_on.ensures.tells start (before ++ t.to.rounds)
    (between_as g.W.Way.told (checked_plan c.rounds.work.checked) p start (before ++ t.to.rounds) c.rounds.rounds is.checked t.to.told_of)))

pub returns-clause-tells : goal.returns-clause-tells
returns-clause-tells g c = λ start before at.
    let p = checked_plan c.args.work.now.checked in
    let old = c.args.cutter.now in
    let shown = g.W.Way.shown c.args.rounds.now in
    ahead_told_ends (tells_by g.W.Way.told p start) p old.header shown (full_round old.chunk) old.next_no (rows_left old) before c.rounds.rounds
    c.rounds.cutter c.rounds.work.chunks (c.rounds.invariant.told start before at) (none_are c.rounds.work.chunks c.is_empty.result c.rounds-test.false c.is_empty.ensures)
