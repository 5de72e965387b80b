use Rattle.std.proofs.Common.{◌≡◌, ◌<◌, ◌≤◌, ◌+◌, ℕ, true, false, All, List, length, take, sym, ap, subst, arith}
use Rattle.std.proofs.lemmas.List.Sorted.{IsPermutation-swap}
use Rattle.sym_path.specs.Changing.{GoesOn}
use Rattle.sym_path.specs.declared.path.Path.{Path}
use Rattle.sym_explore.proofs.EndedFirst.{AreEndedTo, ended_more, ended_within, first_over, going_more, some_ended, others_go}
use Rattle.sym_explore.proofs.ended_paths.put_ended_first.Goals as goal
use Rattle.sym_explore.proofs.ended_paths.put_ended_first.Goals.{then-not-goes_on, else-not-goes_on}

pub paths-init : goal.paths-init
paths-init c =
    let old : List Path = c.args.paths.now.items in
    let count : ℕ = c.first_ended-count.result in
    let Ended : List Path → Type 0 = λ paths. All (λ (path : Path). ¬ (GoesOn path.end)) (take count paths) in
    some_ended old count
    (subst (λ (paths : List Path). count ≤ length paths) c.deref.ensures.value c.first_ended-count.ensures.within)
    (subst Ended c.deref.ensures.value c.first_ended-count.ensures.ended)

pub paths-preserved : goal.paths-preserved
paths-preserved c =
    let old : List Path = c.args.paths.now.items in
    let index : ℕ = c.paths.index in
    let paths : List Path = c.paths.paths.items in
    let path : Path = c.index.result.now in
    let below : index < length paths = omega arith in
    elim c.if-not-goes_on.branch [
      | then-not-goes_on w ↦
          let final : List Path = w.swap.new.self.items in
          let over : ¬ (GoesOn path.end) = λ g. let t : c.goes_on.result ≡ true = c.goes_on.ensures.1 g in let f : c.goes_on.result ≡ false = w.if-not-goes_on.true in cc in
          let counted : c.paths.count < length paths = omega (arith, below, c.paths.invariant.parts.both, c.paths.invariant.parts.counted) in
          let more : AreEndedTo old (index + 1) (c.paths.count + 1) final = ended_more old index c.paths.count paths c.paths.invariant path below c.index.ensures over final (w.swap.ensures.by_index.3 path) (IsPermutation-swap paths final c.paths.count index counted below w.swap.ensures.items) in
          let is : c.if-not-goes_on.paths.items ≡ final = ap (λ v. v.items) w.paths-is in
          subst (λ (n : ℕ). AreEndedTo old (index + 1) n c.if-not-goes_on.paths.items) (sym w.count-is)
          (subst (AreEndedTo old (index + 1) (c.paths.count + 1)) (sym is) more)
      | else-not-goes_on w ↦
          let goes : GoesOn path.end = c.goes_on.ensures.0 w.if-not-goes_on.false in
          let more : AreEndedTo old (index + 1) c.paths.count paths = going_more old index c.paths.count paths c.paths.invariant path below c.index.ensures goes in
          let is : c.if-not-goes_on.paths.items ≡ paths = ap (λ v. v.items) w.paths-is in
          subst (λ (n : ℕ). AreEndedTo old (index + 1) n c.if-not-goes_on.paths.items) (sym w.count-is)
          (subst (AreEndedTo old (index + 1) c.paths.count) (sym is) more)
    ]

pub returns-clause-within : goal.returns-clause-within
returns-clause-within c = ended_within c.args.paths.now.items c.paths.index c.paths.count c.paths.paths.items c.paths.invariant (omega arith)

pub returns-clause-same : goal.returns-clause-same
returns-clause-same c = c.paths.invariant.same

pub returns-clause-ended : goal.returns-clause-ended
returns-clause-ended c = first_over c.args.paths.now.items c.paths.index c.paths.count c.paths.paths.items c.paths.invariant (omega arith)

pub returns-clause-going : goal.returns-clause-going
returns-clause-going c = others_go c.args.paths.now.items c.paths.index c.paths.count c.paths.paths.items c.paths.invariant (omega arith)
