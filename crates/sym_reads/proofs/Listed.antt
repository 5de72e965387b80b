-- The list of the fields that an update names has just those.
use Rattle.std.proofs.Common.{◌≡◌, ◌⊎◌, inl, inr, ⊎_elim, refl, subst, ℕ, List, [], ◌∷◌, ◌++◌}
use Rattle.sym_check.specs.declared.plan.expression.WordOf.{WordOf}
use Rattle.sym_check.specs.declared.plan.expression.WordOf.TheVariants as word
use Rattle.sym_check.specs.declared.plan.expression.LabelOf.{LabelOf}
use Rattle.sym_check.specs.declared.plan.expression.LabelOf.TheVariants as label
use Rattle.sym_check.specs.Plan.FixedPlans.{NumPlan, FixedPlan}
use Rattle.sym_check.specs.Plan.FixedPlans as fixed
use Rattle.sym_check.specs.Plan.LinePlans.{LinePlan, TermPlan}
use Rattle.sym_check.specs.Plan.LinePlans as line
use Rattle.sym_check.specs.Plan.CondPlans.{CondPlan}
use Rattle.sym_check.specs.Plan.CondPlans as cond
use Rattle.sym_check.specs.Plan.DoPlans.{DoPlan, DosPlan}
use Rattle.sym_check.specs.Plan.DoPlans as one
use Rattle.sym_reads.specs.NamedFields.{num_fields, word_fields, label_fields, fixed_fields, fields_of_all, line_fields, term_fields, cond_fields, do_fields, dos_fields}
use Rattle.sym_reads.specs.Naming.{NumNames, WordNames, LabelNames, FixedNames, SomeNames, LineNames, TermNames, CondNames, DoNames, DosNames}
use Rattle.sym_reads.specs.Naming as names

-- The number is one of these.
abbrev pub IsIn : ℕ → List ℕ → Type 0
IsIn i [] = ⊥
IsIn i (j ∷ rest) = (i ≡ j) ⊎ IsIn i rest

in_left : (i : ℕ) (xs ys : List ℕ) → IsIn i xs → IsIn i (xs ++ ys)
in_left i [] ys h = absurd h
in_left i (x ∷ xs) ys (inl e) = inl e
in_left i (x ∷ xs) ys (inr h) = inr (in_left i xs ys h)

in_right : (i : ℕ) (xs ys : List ℕ) → IsIn i ys → IsIn i (xs ++ ys)
in_right i [] ys h = h
in_right i (x ∷ xs) ys h = inr (in_right i xs ys h)

in_either : (i : ℕ) (xs ys : List ℕ) → IsIn i (xs ++ ys) → IsIn i xs ⊎ IsIn i ys
in_either i [] ys h = inr h
in_either i (x ∷ xs) ys (inl e) = inl (inl e)
in_either i (x ∷ xs) ys (inr h) = ⊎_elim (λ (t : IsIn i xs). inl (inr t)) (λ (t : IsIn i ys). inr t) (in_either i xs ys h)

-- What holds of a field in either list holds of one in both.
from_either : (P : Type 0) (i : ℕ) (xs ys : List ℕ) → (IsIn i xs → P) → (IsIn i ys → P) → IsIn i (xs ++ ys) → P
from_either P i xs ys f g h = ⊎_elim f g (in_either i xs ys h)

-- What is named is in the list.
num_listed : (i : ℕ) (n : NumPlan) → NumNames i n → IsIn i (num_fields n)
num_listed i _ names.field_number = inl refl
num_listed i _ (names.opposite n h) = num_listed i n h
num_listed i _ (names.left op l r h) = in_left i (num_fields l) (num_fields r) (num_listed i l h)
num_listed i _ (names.right op l r h) = in_right i (num_fields l) (num_fields r) (num_listed i r h)

word_listed : (i : ℕ) (w : WordOf) → WordNames i w → IsIn i (word_fields w)
word_listed i _ names.field_word = inl refl

label_listed : (i : ℕ) (l : LabelOf) → LabelNames i l → IsIn i (label_fields l)
label_listed i _ names.field_label = inl refl

fixed_listed : (i : ℕ) (e : FixedPlan) → FixedNames i e → IsIn i (fixed_fields e)
fixed_listed i _ (names.in_number n h) = num_listed i n h
fixed_listed i _ (names.in_word w h) = word_listed i w h
fixed_listed i _ (names.in_label l h) = label_listed i l h

all_listed : (i : ℕ) (es : List FixedPlan) → SomeNames i es → IsIn i (fields_of_all es)
all_listed i _ (names.first_value e rest h) = in_left i (fixed_fields e) (fields_of_all rest) (fixed_listed i e h)
all_listed i _ (names.later_value e rest h) = in_right i (fixed_fields e) (fields_of_all rest) (all_listed i rest h)

line_listed : (i : ℕ) (l : LinePlan) → LineNames i l → IsIn i (line_fields l)
line_listed i _ (names.opposite_line l h) = line_listed i l h
line_listed i _ (names.line_before l n h) = in_left i (line_fields l) (num_fields n) (line_listed i l h)
line_listed i _ (names.added l n h) = in_right i (line_fields l) (num_fields n) (num_listed i n h)
line_listed i _ (names.factor n l h) = in_left i (num_fields n) (line_fields l) (num_listed i n h)
line_listed i _ (names.scaled n l h) = in_right i (num_fields n) (line_fields l) (line_listed i l h)

term_listed : (i : ℕ) (t : TermPlan) → TermNames i t → IsIn i (term_fields t)
term_listed i _ (names.fixed_term n h) = num_listed i n h
term_listed i _ (names.line_term l h) = line_listed i l h

cond_listed : (i : ℕ) (c : CondPlan) → CondNames i c → IsIn i (cond_fields c)
cond_listed i _ (names.left_number compare t n h) = in_left i (term_fields t) (num_fields n) (term_listed i t h)
cond_listed i _ (names.right_number compare t n h) = in_right i (term_fields t) (num_fields n) (num_listed i n h)
cond_listed i _ (names.left_word v w h) = in_left i (word_fields v) (word_fields w) (word_listed i v h)
cond_listed i _ (names.right_word v w h) = in_right i (word_fields v) (word_fields w) (word_listed i w h)
cond_listed i _ (names.label_of_cell c l h) = label_listed i l h
cond_listed i _ (names.left_label l m h) = in_left i (label_fields l) (label_fields m) (label_listed i l h)
cond_listed i _ (names.right_label l m h) = in_right i (label_fields l) (label_fields m) (label_listed i m h)
cond_listed i _ (names.argument test c args h) = all_listed i args h
cond_listed i _ (names.denied c h) = cond_listed i c h
cond_listed i _ (names.left_of_and c d h) = in_left i (cond_fields c) (cond_fields d) (cond_listed i c h)
cond_listed i _ (names.right_of_and c d h) = in_right i (cond_fields c) (cond_fields d) (cond_listed i d h)
cond_listed i _ (names.left_of_or c d h) = in_left i (cond_fields c) (cond_fields d) (cond_listed i c h)
cond_listed i _ (names.right_of_or c d h) = in_right i (cond_fields c) (cond_fields d) (cond_listed i d h)

mutual
  do_listed : (i : ℕ) (d : DoPlan) → DoNames i d → IsIn i (do_fields d)
  do_listed i _ (names.local_value n e h) = fixed_listed i e h
  do_listed i _ (names.assigned_number c t h) = term_listed i t h
  do_listed i _ (names.assigned_label c l h) = label_listed i l h
  do_listed i _ (names.kept c es h) = all_listed i es h
  do_listed i _ (names.pushed_number c t h) = term_listed i t h
  do_listed i _ (names.pushed_word c w h) = word_listed i w h
  do_listed i _ (names.condition c a b h) = in_left i (cond_fields c) (dos_fields a ++ dos_fields b) (cond_listed i c h)
  do_listed i _ (names.where_true c a b h) = in_right i (cond_fields c) (dos_fields a ++ dos_fields b) (in_left i (dos_fields a) (dos_fields b) (dos_listed i a h))
  do_listed i _ (names.where_false c a b h) = in_right i (cond_fields c) (dos_fields a ++ dos_fields b) (in_right i (dos_fields a) (dos_fields b) (dos_listed i b h))

  pub dos_listed : (i : ℕ) (ds : DosPlan) → DosNames i ds → IsIn i (dos_fields ds)
  dos_listed i _ (names.first d rest h) = in_left i (do_fields d) (dos_fields rest) (do_listed i d h)
  dos_listed i _ (names.later d rest h) = in_right i (do_fields d) (dos_fields rest) (dos_listed i rest h)

-- What is in the list is named.
num_named : (i : ℕ) (n : NumPlan) → IsIn i (num_fields n) → NumNames i n
num_named i (fixed.Lit n) h = absurd h
num_named i (fixed.Field j) (inl e) = subst (λ (f : ℕ). NumNames i (fixed.Field f)) e names.field_number
num_named i (fixed.Field j) (inr h) = absurd h
num_named i (fixed.Local j) h = absurd h
num_named i (fixed.Param j) h = absurd h
num_named i (fixed.Neg n) h = names.opposite n (num_named i n h)
num_named i (fixed.Bin op l r) h =
    from_either (NumNames i (fixed.Bin op l r)) i (num_fields l) (num_fields r)
    (λ t. names.left op l r (num_named i l t))
    (λ t. names.right op l r (num_named i r t))
    h

word_named : (i : ℕ) (w : WordOf) → IsIn i (word_fields w) → WordNames i w
word_named i (word.Lit t) h = absurd h
word_named i (word.Field j) (inl e) = subst (λ (f : ℕ). WordNames i (word.Field f)) e names.field_word
word_named i (word.Field j) (inr h) = absurd h
word_named i (word.Local j) h = absurd h
word_named i (word.Param j) h = absurd h

label_named : (i : ℕ) (l : LabelOf) → IsIn i (label_fields l) → LabelNames i l
label_named i (label.Lit l) h = absurd h
label_named i (label.Field j) (inl e) = subst (λ (f : ℕ). LabelNames i (label.Field f)) e names.field_label
label_named i (label.Field j) (inr h) = absurd h
label_named i (label.Local j) h = absurd h
label_named i (label.Param j) h = absurd h

fixed_named : (i : ℕ) (e : FixedPlan) → IsIn i (fixed_fields e) → FixedNames i e
fixed_named i (fixed.OfNum n) h = names.in_number n (num_named i n h)
fixed_named i (fixed.OfWord w) h = names.in_word w (word_named i w h)
fixed_named i (fixed.OfLabel l) h = names.in_label l (label_named i l h)

some_named : (i : ℕ) (es : List FixedPlan) → IsIn i (fields_of_all es) → SomeNames i es
some_named i [] h = absurd h
some_named i (e ∷ rest) h =
    from_either (SomeNames i (e ∷ rest)) i (fixed_fields e) (fields_of_all rest)
    (λ t. names.first_value e rest (fixed_named i e t))
    (λ t. names.later_value e rest (some_named i rest t))
    h

line_named : (i : ℕ) (l : LinePlan) → IsIn i (line_fields l) → LineNames i l
line_named i (line.Cell c) h = absurd h
line_named i (line.Neg l) h = names.opposite_line l (line_named i l h)
line_named i (line.Add l n) h =
    from_either (LineNames i (line.Add l n)) i (line_fields l) (num_fields n)
    (λ t. names.line_before l n (line_named i l t))
    (λ t. names.added l n (num_named i n t))
    h
line_named i (line.Scale n l) h =
    from_either (LineNames i (line.Scale n l)) i (num_fields n) (line_fields l)
    (λ t. names.factor n l (num_named i n t))
    (λ t. names.scaled n l (line_named i l t))
    h

term_named : (i : ℕ) (t : TermPlan) → IsIn i (term_fields t) → TermNames i t
term_named i (line.OfNum n) h = names.fixed_term n (num_named i n h)
term_named i (line.OfLine l) h = names.line_term l (line_named i l h)

cond_named : (i : ℕ) (c : CondPlan) → IsIn i (cond_fields c) → CondNames i c
cond_named i (cond.Compared compare t n) h =
    from_either (CondNames i (cond.Compared compare t n)) i (term_fields t) (num_fields n)
    (λ u. names.left_number compare t n (term_named i t u))
    (λ u. names.right_number compare t n (num_named i n u))
    h
cond_named i (cond.Words v w) h =
    from_either (CondNames i (cond.Words v w)) i (word_fields v) (word_fields w)
    (λ t. names.left_word v w (word_named i v t))
    (λ t. names.right_word v w (word_named i w t))
    h
cond_named i (cond.CellIs c l) h = names.label_of_cell c l (label_named i l h)
cond_named i (cond.LabelIs l m) h =
    from_either (CondNames i (cond.LabelIs l m)) i (label_fields l) (label_fields m)
    (λ t. names.left_label l m (label_named i l t))
    (λ t. names.right_label l m (label_named i m t))
    h
cond_named i (cond.Test test c args) h = names.argument test c args (some_named i args h)
cond_named i (cond.Not c) h = names.denied c (cond_named i c h)
cond_named i (cond.And c d) h =
    from_either (CondNames i (cond.And c d)) i (cond_fields c) (cond_fields d)
    (λ t. names.left_of_and c d (cond_named i c t))
    (λ t. names.right_of_and c d (cond_named i d t))
    h
cond_named i (cond.Or c d) h =
    from_either (CondNames i (cond.Or c d)) i (cond_fields c) (cond_fields d)
    (λ t. names.left_of_or c d (cond_named i c t))
    (λ t. names.right_of_or c d (cond_named i d t))
    h

mutual
  do_named : (i : ℕ) (d : DoPlan) → IsIn i (do_fields d) → DoNames i d
  do_named i (one.Let n e) h = names.local_value n e (fixed_named i e h)
  do_named i (one.SetInt c t) h = names.assigned_number c t (term_named i t h)
  do_named i (one.SetEnum c l) h = names.assigned_label c l (label_named i l h)
  do_named i (one.CopyEnum c d) h = absurd h
  do_named i (one.Keep c es) h = names.kept c es (some_named i es h)
  do_named i (one.KeepFrom c d) h = absurd h
  do_named i (one.PushNum c t) h = names.pushed_number c t (term_named i t h)
  do_named i (one.PushWord c w) h = names.pushed_word c w (word_named i w h)
  do_named i (one.If c a b) h =
      from_either (DoNames i (one.If c a b)) i (cond_fields c) (dos_fields a ++ dos_fields b)
      (λ t. names.condition c a b (cond_named i c t))
      (λ u. from_either (DoNames i (one.If c a b)) i (dos_fields a) (dos_fields b)
      (λ t. names.where_true c a b (dos_named i a t))
      (λ t. names.where_false c a b (dos_named i b t))
      u)
      h

  pub dos_named : (i : ℕ) (ds : DosPlan) → IsIn i (dos_fields ds) → DosNames i ds
  dos_named i one.End h = absurd h
  dos_named i (one.Then d rest) h =
      from_either (DosNames i (one.Then d rest)) i (do_fields d) (dos_fields rest)
      (λ t. names.first d rest (do_named i d t))
      (λ t. names.later d rest (dos_named i rest t))
      h
