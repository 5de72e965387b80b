-- Scopes whose names stand for what is there in a plan, and expressions in them, whose plans are
-- well formed then.
use Rattle.std.proofs.Common.{◌≡◌, refl, subst, ℕ, ◌<◌, ℤ, pos, int_le, Bool, true, false, ◌&&◌, if◌then◌else◌, length, List, [], ◌∷◌, ◌++◌, Some, slice_get, arith}
use Rattle.std.specs.List.{AllZip}
use Rattle.std.proofs.lemmas.Int.{ints}
use Rattle.sym_base.specs.declared.tree.name.Name.{Name}
use Rattle.sym_base.specs.Limits.{IsNumber, is_number, num_max}
use Rattle.sym_base.specs.Lawful.{is_unsigned, is_lawful_name, has_some, has_lawful_leaves, have_lawful_leaves}
use Rattle.sym_base.specs.Trees.{ExprTree, Named, ExprsTree, More}
use Rattle.sym_base.proofs.Numbers.{number-Decides}
use Rattle.sym_check.specs.declared.plan.script.EnumPlan.{EnumPlan}
use Rattle.sym_check.specs.declared.plan.script.KindPlan.{KindPlan}
use Rattle.sym_check.specs.declared.plan.script.KindPlan.TheVariants as kind
use Rattle.sym_check.specs.declared.plan.expression.WordOf.{WordOf}
use Rattle.sym_check.specs.declared.plan.expression.LabelOf.{LabelOf}
use Rattle.sym_check.specs.Plan.FixedPlans.{NumPlan, FixedPlan}
use Rattle.sym_check.specs.Plan.LinePlans.{LinePlan, TermPlan}
use Rattle.sym_check.specs.Plan.CondPlans.{CondPlan}
use Rattle.sym_check.specs.Plan.ScriptPlans.{ScriptPlan, TestOf}
use Rattle.sym_check.specs.declared.elaborate.scope.Variable.{Variable}
use Rattle.sym_check.specs.declared.elaborate.scope.Variable.TheVariants as var
use Rattle.sym_check.specs.declared.elaborate.scope.Entry.{Entry}
use Rattle.sym_check.specs.declared.elaborate.scope.View.{View}
use Rattle.sym_check.specs.declared.elaborate.scope.Meaning.{Meaning}
use Rattle.sym_check.specs.declared.elaborate.scope.Meaning.TheVariants as meaning
use Rattle.sym_check.specs.Meaning.Conditions.{same_word}
use Rattle.sym_check.specs.Rules.Scopes.{Scope, find, Stands, shows, visible}
use Rattle.sym_check.specs.Plan.CellKinds.{IsIntCell, IsNumsCell, IsWordsCell, IsHoldCell, IsEnumCell}
use Rattle.sym_check.specs.Meaning.Validity.{label_count}
use Rattle.sym_check.specs.Rules.Typing.{num_variable, word_variable, label_variable, IsNum, IsWord, IsLabel, IsLine, IsTerm, IsValue, AreValues, IsCondition}
use Rattle.sym_check.specs.Rules.Typing as is
use Rattle.sym_check.specs.Plan.WellFormed.{Kinds, IsCalled, AreLabels, IsLabelOfCell}
use Rattle.sym_check.specs.Plan.WellFormed as well

-- A test is there, with these parameters.
pub record IsTestThere (p : ScriptPlan) (t : ℕ) (ks : List KindPlan) : Type 0 where
  pub there : TestOf
  pub is : slice_get p.tests t ≡ Some there
  pub params : there.params ≡ ks

-- A variable of this kind is there.
abbrev pub IsVariable : Kinds → KindPlan → Variable → Type 0
IsVariable k wanted (var.Field i) = slice_get k.fields i ≡ Some wanted
IsVariable k wanted (var.Local i) = slice_get k.locals i ≡ Some wanted
IsVariable k wanted (var.Param i) = slice_get k.params i ≡ Some wanted

-- What a name stands for is there in the plan.
abbrev pub IsThere : ScriptPlan → Kinds → Meaning → Type 0
IsThere p k meaning.Unfinished = Unit {0}
IsThere p k (meaning.Enum enum) = enum < length p.enums
IsThere p k (meaning.Label enum l) = l < label_count p.enums enum
IsThere p k (meaning.Value wanted v) = IsVariable k wanted v
IsThere p k (meaning.IntCell c) = IsIntCell p.cells c
IsThere p k (meaning.EnumCell c enum) = IsEnumCell p.cells c enum
IsThere p k (meaning.HoldCell c ks) = IsHoldCell p.cells c ks
IsThere p k (meaning.NumsCell c) = IsNumsCell p.cells c
IsThere p k (meaning.WordsCell c) = IsWordsCell p.cells c
IsThere p k (meaning.Test t ks) = IsTestThere p t ks

-- All names of the scope stand for what is there.
abbrev pub AreThere : ScriptPlan → Kinds → Scope → Type 0
AreThere p k [] = Unit {0}
AreThere p k (e ∷ rest) = IsThere p k e.meaning × AreThere p k rest

pub there_more : (p : ScriptPlan) (k : Kinds) (s : Scope) (e : Entry) → AreThere p k s → IsThere p k e.meaning → AreThere p k (s ++ e ∷ [])
there_more p k [] e h i = (i, tt)
there_more p k (d ∷ rest) e h i = (h.0, there_more p k rest e h.1 i)

pub there_both : (p : ScriptPlan) (k : Kinds) (s t : Scope) → AreThere p k s → AreThere p k t → AreThere p k (s ++ t)
there_both p k [] t h i = i
there_both p k (d ∷ rest) t h i = (h.0, there_both p k rest t h.1 i)

-- What is there for other kinds, or in a view.
pub there_as : (p q : ScriptPlan) (k j : Kinds) (s : Scope) → ((m : Meaning) → IsThere p k m → IsThere q j m) → AreThere p k s → AreThere q j s
there_as p q k j [] f h = tt
there_as p q k j (e ∷ rest) f h = (f e.meaning h.0, there_as p q k j rest f h.1)

pub there_seen : (p q : ScriptPlan) (k j : Kinds) (v : View) (s : Scope) → ((m : Meaning) → shows v m ≡ true → IsThere p k m → IsThere q j m) → AreThere p k s → AreThere q j (visible v s)
there_seen p q k j v [] f h = tt
there_seen p q k j v (e ∷ rest) f h = go (shows v e.meaning) refl (there_seen p q k j v rest f h.1)
  where
    go : (b : Bool) → shows v e.meaning ≡ b → AreThere q j (visible v rest) → AreThere q j (if b then e ∷ visible v rest else visible v rest)
    go true i later = (f e.meaning i h.0, later)
    go false i later = later

found_there : (p : ScriptPlan) (k : Kinds) (s : Scope) (text : List ℕ) (m : Meaning) → AreThere p k s → find s text ≡ Some m → IsThere p k m
found_there p k [] text m h e = absurd (cc)
found_there p k (x ∷ rest) text m h e = go (same_word x.name text) e (λ i. found_there p k rest text m h.1 i)
  where
    go : (b : Bool) → (if b then Some x.meaning else find rest text) ≡ Some m → (find rest text ≡ Some m → IsThere p k m) → IsThere p k m
    go true i later = let same : x.meaning ≡ m = cc in subst (IsThere p k) same h.0
    go false i later = later i

pub stands_there : (p : ScriptPlan) (k : Kinds) (s : Scope) (x : Name) (m : Meaning) → AreThere p k s → Stands s x m → IsThere p k m
stands_there p k s x m h t = found_there p k s x.text m h t.found

-- Numbers of expressions.
pub both_true : (a b : Bool) → (a && b) ≡ true → (a ≡ true) × (b ≡ true)
both_true true b e = (refl, e)
both_true false b e = absurd (cc)

unsigned_is : (n : ℤ) → is_unsigned n ≡ true → is_number n ≡ true
unfolding is_unsigned is_number
unsigned_is n h = let p = both_true (int_le (pos 0) n) (int_le n (pos num_max)) h in grind (arith, ints)

pub unsigned_number : (n : ℤ) → is_unsigned n ≡ true → IsNumber n
unsigned_number n h = (number-Decides n).0 (unsigned_is n h)

num_variable_is : (k : Kinds) (v : Variable) → IsVariable k kind.Num v → well.IsNum k (num_variable v)
num_variable_is k (var.Field i) h = h
num_variable_is k (var.Local i) h = h
num_variable_is k (var.Param i) h = h

word_variable_is : (k : Kinds) (v : Variable) → IsVariable k kind.Word v → well.IsWord k (word_variable v)
word_variable_is k (var.Field i) h = h
word_variable_is k (var.Local i) h = h
word_variable_is k (var.Param i) h = h

label_variable_is : (enums : List EnumPlan) (k : Kinds) (enum : ℕ) (v : Variable) → IsVariable k (kind.Label enum) v → well.IsLabel enums k enum (label_variable v)
label_variable_is enums k enum (var.Field i) h = h
label_variable_is enums k enum (var.Local i) h = h
label_variable_is enums k enum (var.Param i) h = h

-- The plans of lawful expressions are well formed.
module _ (p : ScriptPlan) (k : Kinds) (s : Scope) (there : AreThere p k s) where
  num_well : (e : ExprTree) (n : NumPlan) → has_lawful_leaves e ≡ true → IsNum s e n → well.IsNum k n
  num_well _ _ h (is.numeral n at) = unsigned_number n h
  num_well _ _ h (is.named x v t) = num_variable_is k v (stands_there p k s x (meaning.Value kind.Num v) there t)
  num_well _ _ h (is.negative e at n i) = num_well e n h i
  num_well _ _ h (is.calculated o a l r at m n e i j) =
      let b = both_true (has_lawful_leaves l) (has_lawful_leaves r) h in
      (num_well l m b.0 i, num_well r n b.1 j)

  word_well : (e : ExprTree) (w : WordOf) → IsWord s e w → well.IsWord k w
  word_well _ _ (is.text t at) = tt
  word_well _ _ (is.word_named x v t) = word_variable_is k v (stands_there p k s x (meaning.Value kind.Word v) there t)

  label_well : (enum : ℕ) (e : ExprTree) (l : LabelOf) → IsLabel s enum e l → well.IsLabel p.enums k enum l
  label_well _ _ _ (is.label_name x enum l t) = stands_there p k s x (meaning.Label enum l) there t
  label_well _ _ _ (is.label_named x enum v t) = label_variable_is p.enums k enum v (stands_there p k s x (meaning.Value (kind.Label enum) v) there t)

  line_well : (e : ExprTree) (l : LinePlan) → has_lawful_leaves e ≡ true → IsLine s e l → well.IsLine p.cells k l
  line_well _ _ h (is.cell x c t) = stands_there p k s x (meaning.IntCell c) there t
  line_well _ _ h (is.opposite e at l i) = line_well e l h i
  line_well _ _ h (is.line_plus l r at x n i j) = let b = both_true (has_lawful_leaves l) (has_lawful_leaves r) h in (line_well l x b.0 i, num_well r n b.1 j)
  line_well _ _ h (is.plus_line l r at n x i j) = let b = both_true (has_lawful_leaves l) (has_lawful_leaves r) h in (line_well r x b.1 j, num_well l n b.0 i)
  line_well _ _ h (is.line_minus l r at x n i j) = let b = both_true (has_lawful_leaves l) (has_lawful_leaves r) h in (line_well l x b.0 i, num_well r n b.1 j)
  line_well _ _ h (is.minus_line l r at n x i j) = let b = both_true (has_lawful_leaves l) (has_lawful_leaves r) h in (line_well r x b.1 j, num_well l n b.0 i)
  line_well _ _ h (is.line_times l r at x n i j) = let b = both_true (has_lawful_leaves l) (has_lawful_leaves r) h in (num_well r n b.1 j, line_well l x b.0 i)
  line_well _ _ h (is.times_line l r at n x i j) = let b = both_true (has_lawful_leaves l) (has_lawful_leaves r) h in (num_well l n b.0 i, line_well r x b.1 j)

  pub term_well : (e : ExprTree) (t : TermPlan) → has_lawful_leaves e ≡ true → IsTerm s e t → well.IsTerm p.cells k t
  term_well _ _ h (is.fixed_term e n i) = num_well e n h i
  term_well _ _ h (is.line_term e l i) = line_well e l h i

  pub value_well : (wanted : KindPlan) (e : ExprTree) (v : FixedPlan) → has_lawful_leaves e ≡ true → IsValue s wanted e v → well.IsFixed p.enums k wanted v
  value_well _ _ _ h (is.num_value e n i) = well.of_num n (num_well e n h i)
  value_well _ _ _ h (is.word_value e w i) = well.of_word w (word_well e w i)
  value_well _ _ _ h (is.label_value enum e l i) = well.of_label enum l (label_well enum e l i)

  pub values_well : (ks : List KindPlan) (es : ExprsTree) (vs : List FixedPlan) → have_lawful_leaves es ≡ true → AreValues s ks es vs → AllZip (well.IsFixed p.enums k) ks vs
  values_well _ _ _ h is.no_values = tt
  values_well _ _ _ h (is.more_values wanted ks e es v vs i j) =
      let b = both_true (has_lawful_leaves e) (have_lawful_leaves es) h in
      (value_well wanted e v b.0 i, values_well ks es vs b.1 j)

  call_well : (x h : Name) (es : ExprsTree) (t c : ℕ) (ks js : List KindPlan) (vs : List FixedPlan) → have_lawful_leaves es ≡ true → Stands s x (meaning.Test t (ks ++ js)) → Stands s h (meaning.HoldCell c ks) → AreValues s js es vs → IsCalled p k t c vs
  call_well x h es t c ks js vs lawful i j values =
      let test : IsTestThere p t (ks ++ js) = stands_there p k s x (meaning.Test t (ks ++ js)) there i in
      record {
        called = test.there;
        is_test = test.is;
        parts = ks;
        is_hold = stands_there p k s h (meaning.HoldCell c ks) there j;
        others = js;
        params = test.params;
        arguments = values_well js es vs lawful values;
      }

  pub condition_well : (e : ExprTree) (c : CondPlan) → has_lawful_leaves e ≡ true → IsCondition s e c → well.IsCond p k c
  condition_well _ _ h (is.compared o c l r at t n e i j) = let b = both_true (has_lawful_leaves l) (has_lawful_leaves r) h in (term_well l t b.0 i, num_well r n b.1 j)
  condition_well _ _ h (is.turned_round o c l r at n x e i j) = let b = both_true (has_lawful_leaves l) (has_lawful_leaves r) h in (line_well r x b.1 j, num_well l n b.0 i)
  condition_well _ _ h (is.same_words l r at v w i j) = (word_well l v i, word_well r w j)
  condition_well _ _ h (is.other_words l r at v w i j) = (word_well l v i, word_well r w j)
  condition_well _ _ h (is.cell_is x r at c enum l t i) = record { enum = enum; of_cell = stands_there p k s x (meaning.EnumCell c enum) there t; is_label = label_well enum r l i }
  condition_well _ _ h (is.label_is l r at enum m n i j) = record { enum = enum; left = label_well enum l m i; right = label_well enum r n j }
  condition_well _ _ h (is.call x hold es t c ks js vs i j values) =
      let b = both_true (is_lawful_name x && has_some (More (Named hold) es)) (have_lawful_leaves (More (Named hold) es)) h in
      let d = both_true (has_lawful_leaves (Named hold)) (have_lawful_leaves es) b.1 in
      call_well x hold es t c ks js vs d.1 i j values
  condition_well _ _ h (is.negation e at c i) = condition_well e c h i
  condition_well _ _ h (is.both l r at c d i j) = let b = both_true (has_lawful_leaves l) (has_lawful_leaves r) h in (condition_well l c b.0 i, condition_well r d b.1 j)
  condition_well _ _ h (is.either l r at c d i j) = let b = both_true (has_lawful_leaves l) (has_lawful_leaves r) h in (condition_well l c b.0 i, condition_well r d b.1 j)

  pub fixed_word_well : (e : ExprTree) (w : WordOf) → IsWord s e w → well.IsWord k w
  fixed_word_well = word_well

  pub fixed_label_well : (enum : ℕ) (e : ExprTree) (l : LabelOf) → IsLabel s enum e l → well.IsLabel p.enums k enum l
  fixed_label_well = label_well
