-- Values that are taken out where there is a mark, and put back where there is one.
use Rattle.std.proofs.Common.{◌≡◌, ◌∙◌, ap, refl, subst, arith, ℕ, zero, suc, ◌+◌, ◌<◌, ◌≤◌, Bool, true, false, if◌then◌else◌, List, [], ◌∷◌, ◌++◌, length, take, drop, get_or, Some, None, slice_get, slice_set}
use Rattle.std.proofs.lemmas.List.{length-map, take_at, drop_at}
use Rattle.std.specs.Option.{option_to_list}
use Rattle.sym_base.specs.declared.values.value.Value.{Value}
use Rattle.sym_base.specs.declared.values.record.Record.{Record}
use Rattle.sym_base.specs.declared.values.state.Outcome.{Outcome}
use Rattle.sym_check.specs.declared.plan.script.EnumPlan.{EnumPlan}
use Rattle.sym_check.specs.declared.plan.script.FieldPlan.{FieldPlan}
use Rattle.sym_check.specs.declared.plan.script.KindPlan.{KindPlan}
use Rattle.sym_check.specs.Meaning.Updates.{step}
use Rattle.sym_check.specs.Meaning.Validity.{AreOfKinds, IsRecord, field_kinds}
use Rattle.sym_check.specs.Plan.ScriptPlans.{ScriptPlan}
use Rattle.sym_check.specs.Plan.WellFormed.{IsWellFormed}
use Rattle.sym_reads.specs.Agreement.{blank_record, where_marked, with_marked_of}
use Rattle.sym_reads.proofs.FilledRecords.{blank_is_record, marked_steps}
use Rattle.sym_shuffle.specs.Shuffling.{AreBlankBeside, AreReadMarks, marked, marked_of, width_of}

-- ---- how many there are
of_kinds_length : (enums : List EnumPlan) (kinds : List KindPlan) (values : List Value) → AreOfKinds enums kinds values → length values ≡ length kinds
of_kinds_length enums [] [] h = refl
of_kinds_length enums [] (x ∷ values) h = absurd h
of_kinds_length enums (k ∷ kinds) [] h = absurd h
of_kinds_length enums (k ∷ kinds) (x ∷ values) h = ap suc (of_kinds_length enums kinds values h.1)

-- A record has as many values as there are fields.
pub record_length : (p : ScriptPlan) (rec : Record) → IsRecord p rec → length rec.fields ≡ length p.fields
record_length p rec h = of_kinds_length p.enums (field_kinds p) rec.fields h ∙ length-map p.fields (λ (f : FieldPlan). f.kind)

-- As many values are taken as there are marks.
pub marked_width : (marks : List Bool) (values : List Value) → length marks ≤ length values → length (marked marks values) ≡ width_of marks
marked_width [] values h = refl
marked_width (true ∷ marks) [] h = absurd (omega arith)
marked_width (false ∷ marks) [] h = absurd (omega arith)
marked_width (true ∷ marks) (x ∷ values) h = ap suc (marked_width marks values (omega arith))
marked_width (false ∷ marks) (x ∷ values) h = marked_width marks values (omega arith)

pub record_width : (p : ScriptPlan) (marks : List Bool) (rec : Record) → AreReadMarks p marks → IsRecord p rec → length (marked marks rec.fields) ≡ width_of marks
record_width p marks rec m h =
    let long = record_length p rec h in
    let wide = m.len in
    marked_width marks rec.fields (omega arith)

-- The marked values of the next record come first, and then those of the others.
pub marked_first : (p : ScriptPlan) (marks : List Bool) (rec : Record) (records : List Record) (values : List Value) → AreReadMarks p marks → IsRecord p rec → values ≡ marked_of marks (rec ∷ records)
    → (take (width_of marks) values ≡ marked marks rec.fields) × (drop (width_of marks) values ≡ marked_of marks records)
marked_first p marks rec records values m h is =
    let wide = record_width p marks rec m h in (
      ap (take (width_of marks)) is ∙ take_at (marked marks rec.fields) (marked_of marks records) (width_of marks) wide,
      ap (drop (width_of marks)) is ∙ drop_at (marked marks rec.fields) (marked_of marks records) (width_of marks) wide,
    )

-- ---- one mark more
pub width_marked : (marks : List Bool) (i : ℕ) (d : Bool) → i < length marks → get_or marks i d ≡ true → width_of (take (i + 1) marks) ≡ width_of (take i marks) + 1
width_marked marks i d lt e = subst (λ (n : ℕ). width_of (take n marks) ≡ width_of (take i marks) + 1) (next i) (of marks i lt e)
  where
    next : (i : ℕ) → suc i ≡ i + 1
    next i = omega arith

    of : (marks : List Bool) (i : ℕ) → i < length marks → get_or marks i d ≡ true → width_of (take (suc i) marks) ≡ width_of (take i marks) + 1
    of [] i lt e = absurd (omega arith)
    of (true ∷ marks) zero lt e = omega arith
    of (false ∷ marks) zero lt e = absurd cc
    of (true ∷ marks) (suc i) lt e = let later = of marks i (omega arith) e in omega arith
    of (false ∷ marks) (suc i) lt e = of marks i (omega arith) e

pub width_unmarked : (marks : List Bool) (i : ℕ) (d : Bool) → i < length marks → get_or marks i d ≡ false → width_of (take (i + 1) marks) ≡ width_of (take i marks)
width_unmarked marks i d lt e = subst (λ (n : ℕ). width_of (take n marks) ≡ width_of (take i marks)) (next i) (of marks i lt e)
  where
    next : (i : ℕ) → suc i ≡ i + 1
    next i = omega arith

    of : (marks : List Bool) (i : ℕ) → i < length marks → get_or marks i d ≡ false → width_of (take (suc i) marks) ≡ width_of (take i marks)
    of [] i lt e = absurd (omega arith)
    of (true ∷ marks) zero lt e = absurd cc
    of (false ∷ marks) zero lt e = refl
    of (true ∷ marks) (suc i) lt e = ap suc (of marks i (omega arith) e)
    of (false ∷ marks) (suc i) lt e = of marks i (omega arith) e

-- Fewer marks come before one than there are.
pub width_below : (marks : List Bool) (i : ℕ) (d : Bool) → i < length marks → get_or marks i d ≡ true → width_of (take i marks) < width_of marks
width_below [] i d lt e = absurd (omega arith)
width_below (true ∷ marks) zero d lt e = omega arith
width_below (false ∷ marks) zero d lt e = absurd cc
width_below (true ∷ marks) (suc i) d lt e = let later = width_below marks i d (omega arith) e in omega arith
width_below (false ∷ marks) (suc i) d lt e = width_below marks i d (omega arith) e

-- The value at a mark goes last, where there is one,
pub taken_marked : (marks : List Bool) (values : List Value) (i : ℕ) (d : Bool) → i < length marks → get_or marks i d ≡ true → marked (take (i + 1) marks) values ≡ marked (take i marks) values ++ option_to_list (slice_get values i)
taken_marked marks values i d lt e = subst (λ (n : ℕ). marked (take n marks) values ≡ marked (take i marks) values ++ option_to_list (slice_get values i)) (next i) (of marks values i lt e)
  where
    next : (i : ℕ) → suc i ≡ i + 1
    next i = omega arith

    of : (marks : List Bool) (values : List Value) (i : ℕ) → i < length marks → get_or marks i d ≡ true → marked (take (suc i) marks) values ≡ marked (take i marks) values ++ option_to_list (slice_get values i)
    of [] values i lt e = absurd (omega arith)
    of (mark ∷ marks) [] zero lt e = refl
    of (mark ∷ marks) [] (suc i) lt e = refl
    of (true ∷ marks) (x ∷ values) zero lt e = refl
    of (false ∷ marks) (x ∷ values) zero lt e = absurd cc
    of (true ∷ marks) (x ∷ values) (suc i) lt e = ap (λ xs. x ∷ xs) (of marks values i (omega arith) e)
    of (false ∷ marks) (x ∷ values) (suc i) lt e = of marks values i (omega arith) e

-- and none does where there is no mark.
pub taken_unmarked : (marks : List Bool) (values : List Value) (i : ℕ) (d : Bool) → i < length marks → get_or marks i d ≡ false → marked (take (i + 1) marks) values ≡ marked (take i marks) values
taken_unmarked marks values i d lt e = subst (λ (n : ℕ). marked (take n marks) values ≡ marked (take i marks) values) (next i) (of marks values i lt e)
  where
    next : (i : ℕ) → suc i ≡ i + 1
    next i = omega arith

    of : (marks : List Bool) (values : List Value) (i : ℕ) → i < length marks → get_or marks i d ≡ false → marked (take (suc i) marks) values ≡ marked (take i marks) values
    of [] values i lt e = absurd (omega arith)
    of (mark ∷ marks) [] zero lt e = refl
    of (mark ∷ marks) [] (suc i) lt e = refl
    of (true ∷ marks) (x ∷ values) zero lt e = absurd cc
    of (false ∷ marks) (x ∷ values) zero lt e = refl
    of (true ∷ marks) (x ∷ values) (suc i) lt e = ap (λ xs. x ∷ xs) (of marks values i (omega arith) e)
    of (false ∷ marks) (x ∷ values) (suc i) lt e = of marks values i (omega arith) e

-- ---- put back
-- Of the values that were taken, that of a mark stands after those of the marks before it.
pub marked_at : (marks : List Bool) (from : List Value) (i : ℕ) (d : Bool) → i < length marks → get_or marks i d ≡ true → slice_get (marked marks from) (width_of (take i marks)) ≡ slice_get from i
marked_at [] from i d lt e = absurd (omega arith)
marked_at (mark ∷ marks) [] i d lt e = refl
marked_at (true ∷ marks) (x ∷ from) zero d lt e = refl
marked_at (false ∷ marks) (x ∷ from) zero d lt e = absurd cc
marked_at (true ∷ marks) (x ∷ from) (suc i) d lt e = marked_at marks from i d (omega arith) e
marked_at (false ∷ marks) (x ∷ from) (suc i) d lt e = marked_at marks from i d (omega arith) e

-- One value more is put at its mark;
pub put_marked : (marks : List Bool) (from fields : List Value) (i : ℕ) (d : Bool) (v : Value) → i < length marks → get_or marks i d ≡ true → slice_get from i ≡ Some v
    → where_marked (take (i + 1) marks) from fields ≡ slice_set (where_marked (take i marks) from fields) i v
put_marked marks from fields i d v lt e at =
    subst (λ (n : ℕ). where_marked (take n marks) from fields ≡ slice_set (where_marked (take i marks) from fields) i v) (next i) (of marks from fields i lt e at)
  where
    next : (i : ℕ) → suc i ≡ i + 1
    next i = omega arith

    of : (marks : List Bool) (from fields : List Value) (i : ℕ) → i < length marks → get_or marks i d ≡ true → slice_get from i ≡ Some v
        → where_marked (take (suc i) marks) from fields ≡ slice_set (where_marked (take i marks) from fields) i v
    of [] from fields i lt e at = absurd (omega arith)
    of (mark ∷ marks) [] fields i lt e at = absurd cc
    of (mark ∷ marks) (x ∷ from) [] zero lt e at = refl
    of (mark ∷ marks) (x ∷ from) [] (suc i) lt e at = refl
    of (true ∷ marks) (x ∷ from) (y ∷ fields) zero lt e at = let same : x ≡ v = cc in ap (λ z. z ∷ fields) same
    of (false ∷ marks) (x ∷ from) (y ∷ fields) zero lt e at = absurd cc
    of (mark ∷ marks) (x ∷ from) (y ∷ fields) (suc i) lt e at = ap (λ ys. (if mark then x else y) ∷ ys) (of marks from fields i (omega arith) e at)

-- none is where there is none, or no mark.
pub put_none : (marks : List Bool) (from fields : List Value) (i : ℕ) → slice_get from i ≡ None → where_marked (take (i + 1) marks) from fields ≡ where_marked (take i marks) from fields
put_none marks from fields i at =
    subst (λ (n : ℕ). where_marked (take n marks) from fields ≡ where_marked (take i marks) from fields) (next i) (of marks from fields i at)
  where
    next : (i : ℕ) → suc i ≡ i + 1
    next i = omega arith

    of : (marks : List Bool) (from fields : List Value) (i : ℕ) → slice_get from i ≡ None → where_marked (take (suc i) marks) from fields ≡ where_marked (take i marks) from fields
    of [] from fields zero at = refl
    of [] from fields (suc i) at = refl
    of (mark ∷ marks) [] fields zero at = refl
    of (mark ∷ marks) [] fields (suc i) at = refl
    of (mark ∷ marks) (x ∷ from) fields zero at = absurd cc
    of (mark ∷ marks) (x ∷ from) [] (suc i) at = refl
    of (mark ∷ marks) (x ∷ from) (y ∷ fields) (suc i) at = ap (λ ys. (if mark then x else y) ∷ ys) (of marks from fields i at)

pub put_unmarked : (marks : List Bool) (from fields : List Value) (i : ℕ) (d : Bool) → i < length marks → get_or marks i d ≡ false → where_marked (take (i + 1) marks) from fields ≡ where_marked (take i marks) from fields
put_unmarked marks from fields i d lt e =
    subst (λ (n : ℕ). where_marked (take n marks) from fields ≡ where_marked (take i marks) from fields) (next i) (of marks from fields i lt e)
  where
    next : (i : ℕ) → suc i ≡ i + 1
    next i = omega arith

    of : (marks : List Bool) (from fields : List Value) (i : ℕ) → i < length marks → get_or marks i d ≡ false → where_marked (take (suc i) marks) from fields ≡ where_marked (take i marks) from fields
    of [] from fields i lt e = absurd (omega arith)
    of (mark ∷ marks) [] fields zero lt e = refl
    of (mark ∷ marks) [] fields (suc i) lt e = refl
    of (mark ∷ marks) (x ∷ from) [] zero lt e = refl
    of (mark ∷ marks) (x ∷ from) [] (suc i) lt e = refl
    of (true ∷ marks) (x ∷ from) (y ∷ fields) zero lt e = absurd cc
    of (false ∷ marks) (x ∷ from) (y ∷ fields) zero lt e = refl
    of (mark ∷ marks) (x ∷ from) (y ∷ fields) (suc i) lt e = ap (λ ys. (if mark then x else y) ∷ ys) (of marks from fields i (omega arith) e)

pub put_length : (marks : List Bool) (from fields : List Value) → length (where_marked marks from fields) ≡ length fields
put_length [] from fields = refl
put_length (mark ∷ marks) [] fields = refl
put_length (mark ∷ marks) (x ∷ from) [] = refl
put_length (mark ∷ marks) (x ∷ from) (y ∷ fields) = ap suc (put_length marks from fields)

-- What was put at the marks before doesn't count.
pub put_twice : (marks : List Bool) (from others fields : List Value) → length fields ≤ length from → where_marked marks from (where_marked marks others fields) ≡ where_marked marks from fields
put_twice [] from others fields h = refl
put_twice (mark ∷ marks) from [] fields h = refl
put_twice (mark ∷ marks) from (x ∷ others) [] h = refl
put_twice (mark ∷ marks) [] (x ∷ others) (y ∷ fields) h = absurd (omega arith)
put_twice (true ∷ marks) (z ∷ from) (x ∷ others) (y ∷ fields) h = ap (λ ys. z ∷ ys) (put_twice marks from others fields (omega arith))
put_twice (false ∷ marks) (z ∷ from) (x ∷ others) (y ∷ fields) h = ap (λ ys. y ∷ ys) (put_twice marks from others fields (omega arith))

-- ---- values that are blank where there is no mark
-- Those of a blank record are.
pub blank_first : (p : ScriptPlan) (marks : List Bool) (number : ℕ) (values : List Value) → IsWellFormed p → values ≡ (blank_record p number).fields → AreBlankBeside p marks values
blank_first p marks number values w is =
    let blank : List Value = (blank_record p zero).fields in
    record {
      len = ap length is ∙ record_length p (blank_record p zero) (blank_is_record p zero w);
      blank = λ from long. ap (where_marked marks from) is;
    }

-- They stay so where values are put at the marks.
pub blank_put : (p : ScriptPlan) (marks : List Bool) (from values now : List Value) → AreBlankBeside p marks values → now ≡ where_marked marks from values → AreBlankBeside p marks now
blank_put p marks from values now h is =
    let same = h.len in
    record {
      len = ap length is ∙ put_length marks from values ∙ h.len;
      blank = λ others long.
          ap (where_marked marks others) is
          ∙ put_twice marks others from values (omega arith)
          ∙ h.blank others long;
    }

-- With a record's values at the marks they do what the record does.
pub blank_steps : (p : ScriptPlan) (marks : List Bool) (rec held : Record) (values : List Value) (o : Outcome) → IsWellFormed p → IsRecord p rec → AreReadMarks p marks → AreBlankBeside p marks values
    → held.no ≡ rec.no → held.fields ≡ where_marked marks rec.fields values → step p o held ≡ step p o rec
blank_steps p marks rec held values o w h m b number is =
    let filled : held.fields ≡ where_marked marks rec.fields (blank_record p rec.no).fields = is ∙ b.blank rec.fields (record_length p rec h) in
    let same : held ≡ with_marked_of rec marks (blank_record p rec.no) = λ i. record { no = number i; fields = filled i } in
    ap (step p o) same ∙ marked_steps p rec marks o w h m.read
