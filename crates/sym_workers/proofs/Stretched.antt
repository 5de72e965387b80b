-- The stretches of a round, and what their runs stand for.
use Rattle.std.proofs.Common.{◌≡◌, ◌∙◌, ℕ, ◌+◌, ◌*◌, ◌≤◌, ◌<◌, List, None, Result, Ok, Err, IfOk, length, min, ap, sym, subst, arith}
use Rattle.std.specs.Int.{div_ceil}
use Rattle.std.proofs.lemmas.Grind.{div_ceil_times}
use Rattle.std.proofs.Math.Nat.{mul-le-mul_right}
use Rattle.sym_check.specs.Checking.CheckedScripts.{checked_plan}
use Rattle.sym_table.specs.declared.chunk.Chunk.{Chunk}
use Rattle.sym_run.specs.declared.runs.Run.{Run}
use Rattle.sym_run.specs.Runs.{AreTight, GroupsFit, IsFromTo, StandsForChunks}
use Rattle.sym_run.proofs.FoundRecords.{run_tight}
use Rattle.sym_files.specs.declared.rounds.Work.{Work}
use Rattle.sym_workers.specs.Pieces.{AreStretches, StandsBetween, StandsFrom, start_of}
use Rattle.sym_workers.specs.RoundRuns.{StandsForAll}

-- As many stretches as the share of each, rounded up.
pub stretched : (chunks each count : ℕ) → 1 ≤ each → count ≡ div_ceil chunks each → AreStretches chunks each count
stretched chunks each count some is =
    let P : ℕ → Type 0 = λ n. AreStretches chunks each n in
    let bounds = div_ceil_times chunks each some in
    subst P (sym is) (record {
      some = some;
      filled = λ number near.
          let most : (number + 1) * each ≤ div_ceil chunks each * each = mul-le-mul_right each (omega arith) in
          omega (arith, bounds.1, most);
      all = bounds.0;
    })

-- What finishing an open run of these chunks gives.
pub finished : {E : Type 0} (work : Work) (first end lo hi : ℕ) (r : Result Run E) → lo ≡ first → hi ≡ end → IfOk r (IsFromTo lo hi) → IfOk r (StandsForChunks (checked_plan work.checked) work.limit work.chunks)
    → IfOk r (StandsFrom work first end)
finished work first end lo hi (Ok run) from to ends stands = record { ends = record { from = ends.from ∙ from; to = ends.to ∙ to }; stands = stands }
finished work first end lo hi (Err e) from to ends stands = tt

-- The same, where the work is an equal one.
pub cut_into : (work lent : Work) (each size len count : ℕ) → 1 ≤ size → work ≡ lent → each ≡ size → len ≡ length work.chunks → count ≡ div_ceil len each → AreStretches (length lent.chunks) size count
cut_into work lent each size len count some same sized long is =
    let n : len ≡ length lent.chunks = subst (λ (w : Work). len ≡ length w.chunks) same long in
    stretched (length lent.chunks) size count some (is ∙ ap (λ (m : ℕ). div_ceil m each) n ∙ ap (λ (e : ℕ). div_ceil (length lent.chunks) e) sized)

-- The run of a stretch's chunks, where the work is an equal one.
pub of_stretch : (work lent : Work) (each size len count number end : ℕ) (run : Run) → work ≡ lent → each ≡ size → len ≡ length work.chunks → AreStretches (length lent.chunks) size count → number < count
    → end ≡ min len (number * each + each) → StandsFrom work (number * each) end run → StandsBetween lent size number (number + 1) run
of_stretch work lent each size len count number end run same sized long are near ends h =
    let filled = are.filled number near in
    let n : len ≡ length lent.chunks = subst (λ (w : Work). len ≡ length w.chunks) same long in
    let until : end ≡ min (length lent.chunks) (number * size + size) =
    subst (λ (e : ℕ). end ≡ min (length lent.chunks) (number * e + e)) sized (subst (λ (k : ℕ). end ≡ min k (number * each + each)) n ends) in
    let own : StandsFrom lent (number * size) end run =
    subst (λ (w : Work). StandsFrom w (number * size) end run) same (subst (λ (e : ℕ). StandsFrom work (number * e) end run) sized h) in
    let from : number * size ≡ start_of (length lent.chunks) size number = omega (arith, filled) in
    let to : end ≡ start_of (length lent.chunks) size (number + 1) = omega (arith, filled, until) in
    record { ends = record { from = own.ends.from ∙ from; to = own.ends.to ∙ to }; stands = own.stands }

-- The run of all stretches.
pub of_all : (work : Work) (each count : ℕ) (run : Run) → AreStretches (length work.chunks) each count → StandsBetween work each 0 count run → StandsForAll (checked_plan work.checked) work.limit work.chunks run
of_all work each count run are h =
    let all = are.all in
    let from : start_of (length work.chunks) each 0 ≡ 0 = omega arith in
    let to : start_of (length work.chunks) each count ≡ length work.chunks = omega arith in
    record { ends = record { from = h.ends.from ∙ from; to = h.ends.to ∙ to }; stands = h.stands }

-- ---- two runs that meet, where the work is an equal one
pub fits_of : (work lent : Work) (lo hi : ℕ) (run : Run) → work ≡ lent → StandsFrom lent lo hi run → GroupsFit (checked_plan work.checked) run.groups
fits_of work lent lo hi run is h = subst (λ (w : Work). GroupsFit (checked_plan w.checked) run.groups) (sym is) h.stands.fits

pub tight_of : (work lent : Work) (lo hi : ℕ) (run : Run) → work ≡ lent → StandsFrom lent lo hi run → run.bad ≡ None → AreTight (checked_plan work.checked) work.limit run.groups
tight_of work lent lo hi run is h none =
    subst (λ (w : Work). AreTight (checked_plan w.checked) w.limit run.groups) (sym is) (run_tight (checked_plan lent.checked) lent.limit lent.chunks run h.stands none)

pub joined : (work lent : Work) (run left right : Run) → work ≡ lent → IsFromTo left.lo right.hi run
    → ((chunks : List Chunk) → StandsForChunks (checked_plan work.checked) work.limit chunks left → StandsForChunks (checked_plan work.checked) work.limit chunks right → StandsForChunks (checked_plan work.checked) work.limit chunks run)
    → (lo mid hi : ℕ) → StandsFrom lent lo mid left → StandsFrom lent mid hi right → StandsFrom lent lo hi run
joined work lent run left right is ends stands lo mid hi l r =
    let P : Run → Work → Type 0 = λ x w. StandsForChunks (checked_plan w.checked) w.limit lent.chunks x in
    record {
      ends = record { from = ends.from ∙ l.ends.from; to = ends.to ∙ r.ends.to };
      stands = subst (P run) is (stands lent.chunks (subst (P left) (sym is) l.stands) (subst (P right) (sym is) r.stands));
    }
