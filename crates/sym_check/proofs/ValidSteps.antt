-- A well-formed plan keeps states valid.
use Rattle.std.proofs.Common.{◌≡◌, refl, subst, ℕ, suc, ◌-◌, ◌<◌, ℤ, pos, neg_ℤ, Bool, true, false, ◌&&◌, List, [], ◌∷◌, ◌++◌, map, length, Some, Result, Ok, Err, arith}
use Rattle.std.specs.Prelude.{◌+ℤ◌, ◌-ℤ◌, ◌*ℤ◌, int_div, int_rem, slice_get, unsigned_abs, nat_le, int_le, if◌then◌else◌, IfOk}
use Rattle.std.specs.List.{All, AllZip}
use Rattle.std.specs.Ordering.{int_eq}
use Rattle.std.proofs.lemmas.Int.{ints}
use Rattle.std.proofs.lemmas.List.Elements.{All-cons, All-nil, All-append}
use Rattle.std.proofs.lemmas.Slice.Zip.{AllZip-long}
use Rattle.sym_base.specs.declared.values.value.Value.{Value}
use Rattle.sym_base.specs.declared.values.value.Value.TheVariants as value
use Rattle.sym_base.specs.declared.values.record.Record.{Record}
use Rattle.sym_base.specs.declared.values.state.Cell.{Cell}
use Rattle.sym_base.specs.declared.values.state.Cell.TheVariants as cell
use Rattle.sym_base.specs.declared.values.state.State.{State}
use Rattle.sym_base.specs.declared.values.state.FaultKind.{FaultKind}
use Rattle.sym_base.specs.declared.values.state.FaultKind.TheVariants as fault
use Rattle.sym_base.specs.declared.values.state.Outcome.{Outcome}
use Rattle.sym_base.specs.declared.values.state.Outcome.TheVariants.{Going, Ended}
use Rattle.sym_base.specs.Limits.{num_max, IsNumber}
use Rattle.sym_base.specs.States.{label_at, cell_label, parts_at, cell_parts, nums_at, cell_nums, words_at, with_cell}
use Rattle.sym_check.specs.declared.evaluate.arithmetic.Arith.{Arith}
use Rattle.sym_check.specs.declared.plan.expression.ArithOp.{ArithOp}
use Rattle.sym_check.specs.declared.plan.expression.ArithOp.TheVariants as op
use Rattle.sym_check.specs.declared.plan.expression.LabelOf.{LabelOf}
use Rattle.sym_check.specs.declared.plan.expression.LabelOf.TheVariants as label
use Rattle.sym_check.specs.declared.plan.script.EnumPlan.{EnumPlan}
use Rattle.sym_check.specs.declared.plan.script.KindPlan.{KindPlan}
use Rattle.sym_check.specs.declared.plan.script.KindPlan.TheVariants as kind
use Rattle.sym_check.specs.declared.plan.script.CellPlan.{CellPlan}
use Rattle.sym_check.specs.declared.plan.script.CellPlan.TheVariants as plan
use Rattle.sym_check.specs.Plan.FixedPlans.{NumPlan, FixedPlan, OfNum, OfWord, OfLabel}
use Rattle.sym_check.specs.Plan.FixedPlans as fixed
use Rattle.sym_check.specs.Plan.DoPlans.{DoPlan, DosPlan}
use Rattle.sym_check.specs.Plan.ScriptPlans.{ScriptPlan}
use Rattle.sym_check.specs.Meaning.Arithmetic.{and_then, within, divided, calculated, failed}
use Rattle.sym_check.specs.Meaning.FixedValues.{Environment, value_number, value_label, number, label_of, word_of, fixed_value, fixed_values}
use Rattle.sym_check.specs.Plan.LinePlans.{LinePlan}
use Rattle.sym_check.specs.Plan.LinePlans as line
use Rattle.sym_check.specs.declared.evaluate.pairs.Pair.{Pair}
use Rattle.sym_check.specs.Meaning.LineValues.{pair, pair_within, term_number}
use Rattle.sym_check.specs.Meaning.Conditions.{truth, test_truth}
use Rattle.sym_check.specs.Plan.Ranges.{InRange, landed}
use Rattle.sym_check.specs.Meaning.Updates.{first_cell, initial, or_fault, with_int, with_pushed, stored, environment, with_local, with_result, environment_after, do_step, dos_step, at_record, step}
use Rattle.sym_check.specs.Meaning.Validity.{label_count, IsOfKind, AreOfKinds, field_kinds, IsRecord, IsValidCell, IsValid, IsValidOutcome}
use Rattle.sym_check.specs.Meaning.Validity as valid
use Rattle.sym_check.specs.Plan.WellFormed.{Kinds, IsKnown, IsNum, IsLabel, IsFixed, IsLine, IsKept, with_kind, IsDo, IsDos, IsCell, IsWellFormed, known_kinds}
use Rattle.sym_check.specs.Plan.CellKinds as kinds_of
use Rattle.sym_check.specs.Plan.WellFormed as well
use Rattle.sym_check.proofs.KeptNumbers.{int_landed, nums_landed, stored_in}
use Rattle.sym_check.proofs.ZippedLists.{zip_get, zip_set, zip_append, zip_replicate}

within_is : (z x : ℤ) → within z ≡ Ok x → IsNumber x
within_is z x = go (nat_le (unsigned_abs z) num_max) refl
  where
    go : (b : Bool) → nat_le (unsigned_abs z) num_max ≡ b → (if b then Ok z else failed) ≡ Ok x → IsNumber x
    go true t e = let same : z ≡ x = cc in let h : IsNumber z = grind (arith, t) in subst IsNumber same h
    go false t e = absurd (cc)

-- What is calculated from a value that is one of a script.
then_is : {A B : Type 0} (P : B → Type 0) (f : A → Result B Arith) (r : Result A Arith) (y : B) → ((x : A) → r ≡ Ok x → f x ≡ Ok y → P y) → and_then f r ≡ Ok y → P y
then_is P f (Ok x) y step e = step x refl e
then_is P f (Err a) y step e = absurd (cc)

divided_is : (y z x : ℤ) → divided y z ≡ Ok x → IsNumber x
divided_is y z x = go (int_eq y (pos 0))
  where
    go : (b : Bool) → (if b then failed else within z) ≡ Ok x → IsNumber x
    go true e = absurd (cc)
    go false e = within_is z x e

calculated_is : (o : ArithOp) (l r x : ℤ) → calculated o l r ≡ Ok x → IsNumber x
calculated_is op.Add l r x e = within_is (l +ℤ r) x e
calculated_is op.Sub l r x e = within_is (l -ℤ r) x e
calculated_is op.Mul l r x e = within_is (l *ℤ r) x e
calculated_is op.Div l r x e = divided_is r (int_div l r) x e
calculated_is op.Rem l r x e = divided_is r (int_rem l r) x e

-- The number, and the label, of what is of such a kind.
number_in_is : (enums : List EnumPlan) (kinds : List KindPlan) (values : List Value) (i : ℕ) → AreOfKinds enums kinds values → slice_get kinds i ≡ Some kind.Num → IsNumber (value_number (slice_get values i))
number_in_is enums kinds values i h e = go (zip_get (IsOfKind enums) kinds values i kind.Num h e)
  where
    go : (v : Value) × (slice_get values i ≡ Some v) × IsOfKind enums kind.Num v → IsNumber (value_number (slice_get values i))
    go (value.Num x, is, h) = rw is h
    go (value.Word t, is, h) = absurd h
    go (value.Label l, is, h) = absurd h

label_in_is : (enums : List EnumPlan) (kinds : List KindPlan) (values : List Value) (enum i : ℕ) → AreOfKinds enums kinds values → slice_get kinds i ≡ Some (kind.Label enum) → value_label (slice_get values i) < label_count enums enum
label_in_is enums kinds values enum i h e = go (zip_get (IsOfKind enums) kinds values i (kind.Label enum) h e)
  where
    go : (v : Value) × (slice_get values i ≡ Some v) × IsOfKind enums (kind.Label enum) v → value_label (slice_get values i) < label_count enums enum
    go (value.Num x, is, h) = absurd h
    go (value.Word t, is, h) = absurd h
    go (value.Label l, is, h) = rw is h

pub number_is : (enums : List EnumPlan) (k : Kinds) (v : Environment) → IsKnown enums k v → (n : NumPlan) (x : ℤ) → IsNum k n → number v n ≡ Ok x → IsNumber x
number_is enums k v h (fixed.Lit n) x t e = let same : n ≡ x = cc in subst IsNumber same t
number_is enums k v h (fixed.Field i) x t e = let same : value_number (slice_get v.fields i) ≡ x = cc in subst IsNumber same (number_in_is enums k.fields v.fields i h.fields t)
number_is enums k v h (fixed.Local i) x t e = let same : value_number (slice_get v.locals i) ≡ x = cc in subst IsNumber same (number_in_is enums k.locals v.locals i h.locals t)
number_is enums k v h (fixed.Param i) x t e = let same : value_number (slice_get v.params i) ≡ x = cc in subst IsNumber same (number_in_is enums k.params v.params i h.params t)
number_is enums k v h (fixed.Neg n) x t e = then_is IsNumber (λ (y : ℤ). within (neg_ℤ y)) (number v n) x (λ y p q. within_is (neg_ℤ y) x q) e
number_is enums k v h (fixed.Bin o l r) x t e =
    then_is IsNumber (λ (y : ℤ). and_then (λ (z : ℤ). calculated o y z) (number v r)) (number v l) x
    (λ y p q. then_is IsNumber (λ (z : ℤ). calculated o y z) (number v r) x (λ z p' q'. calculated_is o y z x q') q)
    e

pub label_is : (enums : List EnumPlan) (k : Kinds) (v : Environment) (enum : ℕ) → IsKnown enums k v → (l : LabelOf) → IsLabel enums k enum l → label_of v l < label_count enums enum
label_is enums k v enum h (label.Lit l) t = t
label_is enums k v enum h (label.Field i) t = label_in_is enums k.fields v.fields enum i h.fields t
label_is enums k v enum h (label.Local i) t = label_in_is enums k.locals v.locals enum i h.locals t
label_is enums k v enum h (label.Param i) t = label_in_is enums k.params v.params enum i h.params t

-- A pair is over an integer cell, and its numbers are those of a script.
abbrev IsPairOf : List CellPlan → Pair → Type 0
IsPairOf cells p = kinds_of.IsIntCell cells p.cell × IsNumber p.a × IsNumber p.b

pair_within_is : (cells : List CellPlan) (c : ℕ) (a b : ℤ) (p : Pair) → kinds_of.IsIntCell cells c → pair_within c a b ≡ Ok p → IsPairOf cells p
pair_within_is cells c a b p h e =
    then_is (IsPairOf cells) (λ (x : ℤ). and_then (λ (y : ℤ). Ok (record { cell = c; a = x; b = y })) (within b)) (within a) p
    (λ x q f. then_is (IsPairOf cells) (λ (y : ℤ). Ok (record { cell = c; a = x; b = y })) (within b) p
    (λ y r g. let same : record { cell = c; a = x; b = y } ≡ p = cc in subst (IsPairOf cells) same (h, within_is a x q, within_is b y r))
    f)
    e

pub pair_is : (enums : List EnumPlan) (cells : List CellPlan) (k : Kinds) (v : Environment) (l : LinePlan) (p : Pair) → IsKnown enums k v → IsLine cells k l → pair v l ≡ Ok p → IsPairOf cells p
pair_is enums cells k v (line.Cell c) p h t e = let same : record { cell = c; a = pos 1; b = pos 0 } ≡ p = cc in subst (IsPairOf cells) same (t, omega arith, omega arith)
pair_is enums cells k v (line.Neg l) p h t e =
    then_is (IsPairOf cells) (λ (q : Pair). pair_within q.cell (neg_ℤ q.a) (neg_ℤ q.b)) (pair v l) p
    (λ q r f. pair_within_is cells q.cell (neg_ℤ q.a) (neg_ℤ q.b) p (pair_is enums cells k v l q h t r).0 f)
    e
pair_is enums cells k v (line.Add l n) p h t e =
    then_is (IsPairOf cells) (λ (x : ℤ). and_then (λ (q : Pair). pair_within q.cell q.a (q.b +ℤ x)) (pair v l)) (number v n) p
    (λ x _ g. then_is (IsPairOf cells) (λ (q : Pair). pair_within q.cell q.a (q.b +ℤ x)) (pair v l) p
    (λ q r f. pair_within_is cells q.cell q.a (q.b +ℤ x) p (pair_is enums cells k v l q h t.0 r).0 f)
    g)
    e
pair_is enums cells k v (line.Scale n l) p h t e =
    then_is (IsPairOf cells) (λ (x : ℤ). and_then (λ (q : Pair). pair_within q.cell (x *ℤ q.a) (x *ℤ q.b)) (pair v l)) (number v n) p
    (λ x _ g. then_is (IsPairOf cells) (λ (q : Pair). pair_within q.cell (x *ℤ q.a) (x *ℤ q.b)) (pair v l) p
    (λ q r f. pair_within_is cells q.cell (x *ℤ q.a) (x *ℤ q.b) p (pair_is enums cells k v l q h t.1 r).0 f)
    g)
    e

pub record_known : (p : ScriptPlan) (rec : Record) → IsRecord p rec → IsKnown p.enums (known_kinds p) (environment rec [])
record_known p rec h = record { fields = h; locals = tt; params = tt }

-- A value is of the kind of its expression.
pub fixed_is : (enums : List EnumPlan) (k : Kinds) (v : Environment) → IsKnown enums k v → (wanted : KindPlan) (e : FixedPlan) (x : Value) → IsFixed enums k wanted e → fixed_value v e ≡ Ok x → IsOfKind enums wanted x
fixed_is enums k v h _ _ x (well.of_num n t) e =
    then_is (IsOfKind enums kind.Num) (λ (y : ℤ). Ok (value.Num y)) (number v n) x
    (λ y p q. let P : Value → Type 0 = IsOfKind enums kind.Num in let same : value.Num y ≡ x = cc in subst P same (number_is enums k v h n y t p))
    e
fixed_is enums k v h _ _ x (well.of_word w t) e = let P : Value → Type 0 = IsOfKind enums kind.Word in let same : value.Word (word_of v w) ≡ x = cc in subst P same tt
fixed_is enums k v h _ _ x (well.of_label enum l t) e = let P : Value → Type 0 = IsOfKind enums (kind.Label enum) in let same : value.Label (label_of v l) ≡ x = cc in subst P same (label_is enums k v enum h l t)

pub all_fixed_are : (enums : List EnumPlan) (k : Kinds) (v : Environment) → IsKnown enums k v → (kinds : List KindPlan) (es : List FixedPlan) (xs : List Value) → AllZip (IsFixed enums k) kinds es → fixed_values v es ≡ Ok xs → AreOfKinds enums kinds xs
all_fixed_are enums k v h [] [] xs t e = let P : List Value → Type 0 = AreOfKinds enums [] in let same : [] ≡ xs = cc in subst P same tt
all_fixed_are enums k v h [] (x ∷ es) xs t e = absurd t
all_fixed_are enums k v h (a ∷ kinds) [] xs t e = absurd t
all_fixed_are enums k v h (a ∷ kinds) (x ∷ es) xs t e =
    let P : List Value → Type 0 = AreOfKinds enums (a ∷ kinds) in
    let rest : (ys : List Value) → fixed_values v es ≡ Ok ys → AreOfKinds enums kinds ys = λ ys. all_fixed_are enums k v h kinds es ys t.1 in
    then_is P (λ (y : Value). and_then (λ (ys : List Value). Ok (y ∷ ys)) (fixed_values v es)) (fixed_value v x) xs
    (λ y p q. then_is P (λ (ys : List Value). Ok (y ∷ ys)) (fixed_values v es) xs
    (λ ys p' q'. let same : (y ∷ ys) ≡ xs = cc in subst P same (fixed_is enums k v h a x y t.0 p, rest ys p'))
    q)
    e

-- One local more is of its kind.
pub more_known : (enums : List EnumPlan) (k : Kinds) (v : Environment) (n : ℕ) (last : KindPlan) (x : Value) → IsKnown enums k v → IsOfKind enums last x → IsKnown enums (with_kind k n last) (with_local v n x)
more_known enums k v n last x h t =
    let long : length v.locals ≡ length k.locals = AllZip-long (IsOfKind enums) k.locals v.locals h.locals in
    let zero_is : IsOfKind enums kind.Num (value.Num (pos 0)) = omega arith in
    record {
      fields = h.fields;
      locals =
          zip_append (IsOfKind enums) k.locals _ v.locals _ h.locals
          (rw long (zip_append (IsOfKind enums) _ _ _ _ (zip_replicate (IsOfKind enums) (n - length k.locals) kind.Num (value.Num (pos 0)) zero_is) (t, tt)));
      params = h.params;
    }

-- A cell that is there is replaced by one that it may hold.
put_is : (p : ScriptPlan) (s : State) (c : ℕ) (wanted : CellPlan) (content : Cell) → IsValid p s → slice_get p.cells c ≡ Some wanted → IsValidCell p.enums wanted content → IsValid p (with_cell s c content)
put_is p s c wanted content h e t = zip_set (IsValidCell p.enums) p.cells s.cells c wanted content h e t

-- What is done with a value, where there is one.
calculated_valid : {A : Type 0} (P : State → Type 0) (f : A → Result State FaultKind) (r : Result A Arith) → ((x : A) → r ≡ Ok x → IfOk (f x) P) → IfOk (and_then f (or_fault r)) P
calculated_valid P f (Ok x) goes = goes x refl
calculated_valid P f (Err e) goes = tt

-- What is done after a statement.
followed_valid : (P Q : State → Type 0) (f : State → Result State FaultKind) (r : Result State FaultKind) → IfOk r Q → ((s : State) → Q s → IfOk (f s) P) → IfOk (and_then f r) P
followed_valid P Q f (Ok s) h goes = goes s h
followed_valid P Q f (Err e) h goes = tt

-- The cell of a state that is valid beside an integer cell of the plan, and so on.
label_held : (p : ScriptPlan) (s : State) (c enum : ℕ) → IsValid p s → kinds_of.IsEnumCell p.cells c enum → label_at s c < label_count p.enums enum
label_held p s c enum h w = go (zip_get (IsValidCell p.enums) p.cells s.cells c (plan.Enum enum w.first) h w.is)
  where
    found : (content : Cell) → IsValidCell p.enums (plan.Enum enum w.first) content → slice_get s.cells c ≡ Some content → cell_label (slice_get s.cells c) < label_count p.enums enum
    found _ (valid.enum of first l t) e = rw e t

    go : (content : Cell) × (slice_get s.cells c ≡ Some content) × IsValidCell p.enums (plan.Enum enum w.first) content → label_at s c < label_count p.enums enum
    go (content, e, t) = found content t e

parts_held : (p : ScriptPlan) (s : State) (c : ℕ) (kinds : List KindPlan) → IsValid p s → kinds_of.IsHoldCell p.cells c kinds → AreOfKinds p.enums kinds (parts_at s c)
parts_held p s c kinds h w = go (zip_get (IsValidCell p.enums) p.cells s.cells c (plan.Hold kinds w.first) h w.is)
  where
    found : (content : Cell) → IsValidCell p.enums (plan.Hold kinds w.first) content → slice_get s.cells c ≡ Some content → AreOfKinds p.enums kinds (cell_parts (slice_get s.cells c))
    found _ (valid.hold ks first parts t) e = rw e t

    go : (content : Cell) × (slice_get s.cells c ≡ Some content) × IsValidCell p.enums (plan.Hold kinds w.first) content → AreOfKinds p.enums kinds (parts_at s c)
    go (content, e, t) = found content t e

-- A list of numbers in a range with one more.
all_more : (lo hi x : ℤ) (xs : List ℤ) → All (InRange lo hi) xs → InRange lo hi x → All (InRange lo hi) (xs ++ x ∷ [])
all_more lo hi x xs h t = All-append (InRange lo hi) xs (x ∷ []) h (All-cons (InRange lo hi) x [] t (All-nil (InRange lo hi)))

nums_held : (p : ScriptPlan) (s : State) (c : ℕ) (x : ℤ) → IsValid p s → (w : kinds_of.IsNumsCell p.cells c) → InRange w.lo w.hi x → IsValidCell p.enums (plan.Nums w.lo w.hi w.clamp) (cell.Nums (nums_at s c ++ x ∷ []))
nums_held p s c x h w t = go (zip_get (IsValidCell p.enums) p.cells s.cells c (plan.Nums w.lo w.hi w.clamp) h w.is)
  where
    found : (content : Cell) → IsValidCell p.enums (plan.Nums w.lo w.hi w.clamp) content → slice_get s.cells c ≡ Some content → All (InRange w.lo w.hi) (cell_nums (slice_get s.cells c))
    found _ (valid.nums lo hi clamp xs t) e = rw e t

    go : (content : Cell) × (slice_get s.cells c ≡ Some content) × IsValidCell p.enums (plan.Nums w.lo w.hi w.clamp) content → IsValidCell p.enums (plan.Nums w.lo w.hi w.clamp) (cell.Nums (nums_at s c ++ x ∷ []))
    go (content, e, i) = valid.nums w.lo w.hi w.clamp _ (all_more w.lo w.hi x (nums_at s c) (found content i e) t)

either : (P : State → Type 0) (l r : Result State FaultKind) (x : Bool) → IfOk l P → IfOk r P → IfOk (if x then l else r) P
either P l r true h k = h
either P l r false h k = k

-- A valid state, and an environment of these kinds.
pub record Goes (p : ScriptPlan) (k : Kinds) (v : Environment) (s : State) : Type 0 where
  pub state : IsValid p s
  pub known : IsKnown p.enums k v

ends_known : (p : ScriptPlan) (k : Kinds) (v : Environment) → IsKnown p.enums k v → (r : Result State FaultKind) → IfOk r (IsValid p) → IfOk r (Goes p k v)
ends_known p k v h (Ok s) i = record { state = i; known = h }
ends_known p k v h (Err e) i = tt

mutual
  do_valid : (p : ScriptPlan) → All (IsCell p.enums) p.cells → (k later : Kinds) (d : DoPlan) → IsDo p k d later → (v : Environment) (s : State) → IsKnown p.enums k v → IsValid p s → IfOk (do_step p v d s) (Goes p later (environment_after v d))
  do_valid p well_formed _ _ _ (well.let_value k n last e free t) v s h i =
      calculated_valid (Goes p (with_kind k n last) (with_result v n (fixed_value v e))) (λ (x : Value). Ok s) (fixed_value v e)
      (λ x is. record { state = i; known = rw is (more_known p.enums k v n last x h (fixed_is p.enums k v h last e x t is)) })
  do_valid p well_formed _ _ _ (well.set_int k c t w u) v s h i =
      calculated_valid (Goes p k v) (λ (x : ℤ). stored p c (with_int c) x s) (term_number v t s)
      (λ x is. stored_in p (Goes p k v) s c (with_int c) x
      (λ y lands. record {
        state = put_is p s c (plan.Int w.lo w.hi w.first w.clamp) (cell.Int y) i w.is (valid.int w.lo w.hi w.first w.clamp y (int_landed p.enums p.cells c x y well_formed w lands));
        known = h;
      }))
  do_valid p well_formed _ _ _ (well.set_enum k c l w) v s h i = record {
    state = put_is p s c (plan.Enum w.enum w.of_cell.first) (cell.Enum (label_of v l)) i w.of_cell.is (valid.enum w.enum w.of_cell.first (label_of v l) (label_is p.enums k v w.enum h l w.is_label));
    known = h;
  }
  do_valid p well_formed _ _ _ (well.copy_enum k c d w) v s h i = record {
    state = put_is p s c (plan.Enum w.enum w.to.first) (cell.Enum (label_at s d)) i w.to.is (valid.enum w.enum w.to.first (label_at s d) (label_held p s d w.enum i w.from));
    known = h;
  }
  do_valid p well_formed _ _ _ (well.keep k c es w) v s h i =
      calculated_valid (Goes p k v) (λ (xs : List Value). Ok (with_cell s c (cell.Hold xs))) (fixed_values v es)
      (λ xs is. record {
        state = put_is p s c (plan.Hold w.parts w.is_hold.first) (cell.Hold xs) i w.is_hold.is (valid.hold w.parts w.is_hold.first xs (all_fixed_are p.enums k v h w.parts es xs w.kept is));
        known = h;
      })
  do_valid p well_formed _ _ _ (well.keep_from k c d w) v s h i = record {
    state = put_is p s c (plan.Hold w.parts w.to.first) (cell.Hold (parts_at s d)) i w.to.is (valid.hold w.parts w.to.first (parts_at s d) (parts_held p s d w.parts i w.from));
    known = h;
  }
  do_valid p well_formed _ _ _ (well.push_num k c t w u) v s h i =
      calculated_valid (Goes p k v) (λ (x : ℤ). stored p c (with_pushed c) x s) (term_number v t s)
      (λ x is. stored_in p (Goes p k v) s c (with_pushed c) x
      (λ y lands. record {
        state = put_is p s c (plan.Nums w.lo w.hi w.clamp) (cell.Nums (nums_at s c ++ y ∷ [])) i w.is (nums_held p s c y i w (nums_landed p.enums p.cells c x y well_formed w lands));
        known = h;
      }))
  do_valid p well_formed _ _ _ (well.push_word k c w u t) v s h i = record {
    state = put_is p s c plan.Words (cell.Words (words_at s c ++ word_of v w ∷ [])) i u.is (valid.words _);
    known = h;
  }
  do_valid p well_formed _ _ _ (well.branch k c a b t ta tb) v s h i =
      let left : IfOk (dos_step p v a s) (Goes p k v) = ends_known p k v h (dos_step p v a s) (dos_valid p well_formed k a ta v s h i) in
      let right : IfOk (dos_step p v b s) (Goes p k v) = ends_known p k v h (dos_step p v b s) (dos_valid p well_formed k b tb v s h i) in
      calculated_valid (Goes p k v) (λ (x : Bool). if x then dos_step p v a s else dos_step p v b s) (truth (test_truth p.tests) v c s)
      (λ x is. either (Goes p k v) (dos_step p v a s) (dos_step p v b s) x left right)

  dos_valid : (p : ScriptPlan) → All (IsCell p.enums) p.cells → (k : Kinds) (ds : DosPlan) → IsDos p k ds → (v : Environment) (s : State) → IsKnown p.enums k v → IsValid p s → IfOk (dos_step p v ds s) (IsValid p)
  dos_valid p well_formed _ _ (well.finished k) v s h i = i
  dos_valid p well_formed _ _ (well.followed k later d rest t r) v s h i =
      followed_valid (IsValid p) (Goes p later (environment_after v d)) (λ (s' : State). dos_step p (environment_after v d) rest s') (do_step p v d s)
      (do_valid p well_formed k later d t v s h i)
      (λ s' g. dos_valid p well_formed later rest r (environment_after v d) s' g.known g.state)

recorded_valid : (p : ScriptPlan) (n : ℕ) (r : Result State FaultKind) → IfOk r (IsValid p) → IsValidOutcome p (at_record n r)
recorded_valid p n (Ok s) h = h
recorded_valid p n (Err e) h = tt

-- One record keeps a group's state valid.
pub step_valid : (p : ScriptPlan) (o : Outcome) (rec : Record) → IsWellFormed p → IsRecord p rec → IsValidOutcome p o → IsValidOutcome p (step p o rec)
step_valid p (Going s) rec w r i = recorded_valid p rec.no (dos_step p (environment rec []) p.update s) (dos_valid p w.cells (known_kinds p) p.update w.update (environment rec []) s (record { fields = r; locals = tt; params = tt }) i)
step_valid p (Ended end) rec w r i = tt

first_valid : (enums : List EnumPlan) (c : CellPlan) → IsCell enums c → IsValidCell enums c (first_cell c)
first_valid enums (plan.Int lo hi first clamp) h = valid.int lo hi first clamp first h.2
first_valid enums (plan.Nums lo hi clamp) h = valid.nums lo hi clamp [] (All-nil (InRange lo hi))
first_valid enums plan.Words h = valid.words []
first_valid enums (plan.Hold kinds first) h = valid.hold kinds first first h.1
first_valid enums (plan.Enum of first) h = valid.enum of first first h

-- The first content of cells is valid.
firsts_valid : (enums : List EnumPlan) (cells : List CellPlan) → All (IsCell enums) cells → AllZip (IsValidCell enums) cells (map first_cell cells)
firsts_valid enums [] h = tt
firsts_valid enums (c ∷ cells) h = (first_valid enums c (h 0 c (omega arith)), firsts_valid enums cells (λ i d lt. h (suc i) d (omega arith)))

pub initial_valid : (p : ScriptPlan) → IsWellFormed p → IsValid p (initial p)
initial_valid p w = firsts_valid p.enums p.cells w.cells
