use Rattle.std.proofs.Common.{get_or, List, ◌≡◌, ◌≢◌, ◌<◌, ℕ, Some, None, inl, inr, length, sym, ap, ◌∙◌, subst, arith}
use Rattle.std.proofs.lemmas.Option.{slice_get-get_or, slice_get_within}
use Rattle.std.specs.Prelude.{slice_get, slice_set}
use Rattle.sym_path.specs.declared.part.Part.{Part}
use Rattle.sym_path.specs.declared.part.Part.TheVariants as part
use Rattle.sym_path.specs.Joining.{PartsUnite, ConstraintsUnite}
use Rattle.sym_path.specs.Joins.{IsDifference}
use Rattle.sym_path.proofs.FollowingNarrowed.{set_twice}
use Rattle.sym_path.proofs.JoiningConstraints.{same_lengths, no_difference, the_cell}
use Rattle.sym_path.proofs.Lists.{no_gap, set_past}
use Rattle.sym_path.proofs.joins.united.Goals as goal

-- The second constraint has the cell in which the first one has a part.
within : (v w : List Part) (m : ℕ) (x : Part) → slice_get v m ≡ Some x → ConstraintsUnite v w → m < length w
within v w m x in_v unite =
    let lengths = same_lengths v w unite in
    let here = slice_get_within v m x in_v in
    omega (arith, lengths, here)

-- What is known of the cell in which the constraints differ.
there : (v w : List Part) (m : ℕ) (x y : Part) → slice_get v m ≡ Some x → ConstraintsUnite v w → IsDifference v w 0 m → y ≡ get_or w m y → (slice_get w m ≡ Some y) × PartsUnite x y × ((c : ℕ) → c ≢ m → slice_get v c ≡ slice_get w c)
there v w m x y in_v unite d f =
    let in_w : slice_get w m ≡ Some y = slice_get-get_or w m y (within v w m x in_v unite) ∙ ap Some (sym f) in
    let both = the_cell v w m x y (slice_get_within v m x in_v) d in_v in_w unite in
    (in_w, both.0, both.1)

pub difference-cell-requires-clause-lengths : goal.difference-cell-requires-clause-lengths
difference-cell-requires-clause-lengths c = ap length c.as_slice.ensures ∙ same_lengths c.args.v c.args.w.now c.requires

pub bounds-w-cell : goal.bounds-w-cell
bounds-w-cell c = within c.args.v c.args.w.now c.difference-cell.result c.in-Some.part (sym c.in-Some.ensures.old) c.requires

pub united_part-requires : goal.united_part-requires
united_part-requires c =
    let m = c.difference-cell.result in
    let d : IsDifference c.args.v c.args.w.now 0 m = subst (λ (p : List Part). IsDifference p c.args.w.now 0 m) c.as_slice.ensures c.difference-cell.ensures in
    (there c.args.v c.args.w.now m c.in-Some.part c.index-w-cell.result (sym c.in-Some.ensures.old) c.requires d c.index-w-cell.is).1

pub returns-in-Some : goal.returns-in-Some
returns-in-Some c =
    let v : List Part = c.args.v in
    let m = c.difference-cell.result in
    let union : Part = c.united_part.result in
    let d : IsDifference v c.args.w.now 0 m = subst (λ (p : List Part). IsDifference p c.args.w.now 0 m) c.as_slice.ensures c.difference-cell.ensures in
    let known = there v c.args.w.now m c.in-Some.part c.index-w-cell.result (sym c.in-Some.ensures.old) c.requires d c.index-w-cell.is in
    inr (record {
      cell = m;
      first = c.in-Some.part;
      second = c.index-w-cell.result;
      union = union;
      in_first = sym c.in-Some.ensures.old;
      in_second = known.0;
      others = known.2;
      unites = c.united_part.ensures;
      is = c.set.ensures ∙ ap (λ (ps : List Part). slice_set ps m union) c.replace.ensures.new ∙ set_twice v m part.Free union;
    })

-- Where there is no such cell, they are equal.
pub returns-in-None : goal.returns-in-None
returns-in-None c =
    let v : List Part = c.args.v in
    let m = c.difference-cell.result in
    let none : slice_get v m ≡ None = sym c.in-None.ensures.old in
    let d : IsDifference v c.args.w.now 0 m = subst (λ (p : List Part). IsDifference p c.args.w.now 0 m) c.as_slice.ensures c.difference-cell.ensures in
    let inside = d.within in
    let last : m ≡ length v = omega (arith, inside, (λ (h : m < length v). no_gap v m h none)) in
    inl (no_difference v c.args.w.now (same_lengths v c.args.w.now c.requires) m last d, c.replace.ensures.new ∙ set_past v m part.Free none)
