-- Declarations agree with what is so of them and with their first broken rule.
use Rattle.std.proofs.Common.{◌≡◌, refl, sym, subst, ℕ, ℤ, ◌==◌, ◌⊎◌, inl, inr, List, Option, Some, None, Result, Ok, Err}
use Rattle.std.proofs.lemmas.Bool.Decides.{Decides-eqb}
use Rattle.sym_base.specs.declared.tree.name.Name.{Name}
use Rattle.sym_base.specs.declared.tree.declaration.KindRef.{KindRef}
use Rattle.sym_base.specs.declared.tree.declaration.KindRef.TheVariants as ref
use Rattle.sym_base.specs.declared.tree.declaration.Literal.{Literal}
use Rattle.sym_base.specs.declared.tree.declaration.Literal.TheVariants as literal
use Rattle.sym_base.specs.declared.values.value.Value.{Value}
use Rattle.sym_base.specs.declared.values.value.Value.TheVariants as value
use Rattle.sym_check.specs.declared.plan.script.KindPlan.{KindPlan}
use Rattle.sym_check.specs.declared.plan.script.KindPlan.TheVariants as kind
use Rattle.sym_check.specs.Meaning.Arithmetic.{and_then}
use Rattle.sym_check.specs.declared.elaborate.error.CheckErr.{CheckErr}
use Rattle.sym_check.specs.declared.elaborate.error.CheckErr.TheVariants as broken
use Rattle.sym_check.specs.declared.elaborate.scope.Variable.TheVariants as var
use Rattle.sym_check.specs.declared.elaborate.scope.Meaning.{Meaning}
use Rattle.sym_check.specs.declared.elaborate.scope.Meaning.TheVariants as meaning
use Rattle.sym_check.specs.Rules.Scopes.{Scope, find, Stands, IsFree}
use Rattle.sym_check.specs.Elaborate.Expressions.{kind_at}
use Rattle.sym_check.specs.Rules.Declarations.{IsKindOf, IsLiteral, IsDefault}
use Rattle.sym_check.specs.Rules.Declarations as is
use Rattle.sym_check.specs.Breaks.Declarations.{BreaksKind, literal_place, IsVisible, BreaksLiteral}
use Rattle.sym_check.specs.Breaks.Declarations as breaks
use Rattle.sym_check.specs.Elaborate.Declarations.{enum_named, label_named, field_named, kind_of, no_label, literal_of, default_of}
use Rattle.sym_check.proofs.Agreements.{Agrees, in_words, only_value, only_fault, then_made, IsKinded, of_kind, of_no_kind, where_true, named_agrees, stands_once, stands_or_free}

-- The enum that a name stands for, by what it stands for; so too a label and a field.
pub enum_kinded : (at : ℕ) (m : Meaning) → IsKinded (λ (n : ℕ). m ≡ meaning.Enum n) at (enum_named at (Some m))
enum_kinded at (meaning.Enum n) = of_kind at n refl (λ b i. cc)
enum_kinded at _ = of_no_kind at (λ a i. cc)

same_label : (wanted at other l : ℕ) → IsKinded (λ (n : ℕ). meaning.Label other l ≡ meaning.Label wanted n) at (label_named wanted at (Some (meaning.Label other l)))
same_label wanted at other l = where_true (other == wanted) (Decides-eqb other wanted) (λ e. of_kind at l (rw e refl) (λ b i. cc)) (λ none. of_no_kind at (λ a i. none (cc)))

pub label_kinded : (wanted at : ℕ) (m : Meaning) → IsKinded (λ (n : ℕ). m ≡ meaning.Label wanted n) at (label_named wanted at (Some m))
label_kinded wanted at (meaning.Label other l) = same_label wanted at other l
label_kinded wanted at _ = of_no_kind at (λ a i. cc)

abbrev pub IsFieldMeaning : Meaning → ℕ → Type 0
IsFieldMeaning m n = (k : KindPlan) × (m ≡ meaning.Value k (var.Field n))

pub field_kinded : (at : ℕ) (m : Meaning) → IsKinded (IsFieldMeaning m) at (field_named at (Some m))
field_kinded at (meaning.Value k (var.Field n)) = of_kind at n (k, refl) (λ b i. let e : meaning.Value k (var.Field n) ≡ meaning.Value i.0 (var.Field b) = i.1 in cc)
field_kinded at (meaning.Value k (var.Local n)) = of_no_kind at (λ a i. let e : meaning.Value k (var.Local n) ≡ meaning.Value i.0 (var.Field a) = i.1 in cc)
field_kinded at (meaning.Value k (var.Param n)) = of_no_kind at (λ a i. let e : meaning.Value k (var.Param n) ≡ meaning.Value i.0 (var.Field a) = i.1 in cc)
field_kinded at _ = of_no_kind at (λ a i. let e = i.1 in cc)

-- What one kind of meaning is wanted for, and where a name has none or another one.
abbrev pub Unmeant : Scope → Name → {A : Type 0} → (Meaning → A → Type 0) → CheckErr → Type 0
Unmeant s x {A} Is f = (IsFree s x × (broken.Name x.at ≡ f)) ⊎ ((m : Meaning) × Stands s x m × (((a : A) → Is m a → ⊥) × (broken.Kind x.at ≡ f)))

-- A kind that is written.
enum_kind : (s : Scope) (x : Name) (k : KindPlan) → (n : ℕ) × ((m : Meaning) × Stands s x m × (m ≡ meaning.Enum n)) × (kind.Label n ≡ k) → IsKindOf s (ref.Named x) k
enum_kind s x k (n, (m, t, e), i) = subst (IsKindOf s (ref.Named x)) i (is.label_kind x n (subst (Stands s x) e t))

kind_enum : (s : Scope) (x : Name) (k : KindPlan) → IsKindOf s (ref.Named x) k → (n : ℕ) × ((m : Meaning) × Stands s x m × (m ≡ meaning.Enum n)) × (kind.Label n ≡ k)
kind_enum s _ _ (is.label_kind x n t) = (n, (meaning.Enum n, t, refl), refl)

pub no_enum : (s : Scope) (x : Name) (f : CheckErr) → Unmeant s x (λ m (n : ℕ). m ≡ meaning.Enum n) f → BreaksKind s (ref.Named x) f
no_enum s x f (inl (t, e)) = subst (BreaksKind s (ref.Named x)) e (breaks.unknown_kind x t)
no_enum s x f (inr (m, t, (none, e))) = subst (BreaksKind s (ref.Named x)) e (breaks.no_enum x m t none)

pub enum_not : (s : Scope) (x : Name) (f : CheckErr) → BreaksKind s (ref.Named x) f → Unmeant s x (λ m (n : ℕ). m ≡ meaning.Enum n) f
enum_not s _ _ (breaks.unknown_kind x t) = inl (t, refl)
enum_not s _ _ (breaks.no_enum x m t none) = inr (m, t, (none, refl))

num_alone : (s : Scope) (k : KindPlan) → IsKindOf s ref.Num k → kind.Num ≡ k
num_alone s _ is.num_kind = refl

word_alone : (s : Scope) (k : KindPlan) → IsKindOf s ref.Word k → kind.Word ≡ k
word_alone s _ is.word_kind = refl

pub kind_agrees : (s : Scope) (d : KindRef) → Agrees (IsKindOf s d) (BreaksKind s d) (kind_of s d)
kind_agrees s ref.Num = only_value kind.Num is.num_kind (num_alone s) (λ f b. elim b [ ])
kind_agrees s ref.Word = only_value kind.Word is.word_kind (word_alone s) (λ f b. elim b [ ])
kind_agrees s (ref.Named x) =
    in_words (then_made kind.Label (named_agrees s x (λ o. enum_named x.at o) refl (enum_kinded x.at)))
    (enum_kind s x) (kind_enum s x) (no_enum s x) (enum_not s x)

-- A literal.
unlike_free : (s : Scope) (k : KindPlan) (x : Name) (v : Value) → IsLiteral s k (literal.Named x) v → IsFree s x → ⊥
unlike_free s _ _ _ (is.label_literal x n l t) free = stands_or_free s x _ t.found free

literal_fine : (s : Scope) (k : KindPlan) (d : Literal) (v : Value) → IsLiteral s k d v → (f : CheckErr) → BreaksLiteral s k d f → ⊥
literal_fine s k _ v i _ (breaks.unknown_label x t) = unlike_free s k x v i t
literal_fine s k _ v i _ (breaks.other_kind d visible none) = none v i

literal_value : (s : Scope) (k : KindPlan) (d : Literal) (v : Value) → IsLiteral s k d v → ((w : Value) → IsLiteral s k d w → v ≡ w) → Agrees (IsLiteral s k d) (BreaksLiteral s k d) (Ok v)
literal_value s k d v i one = only_value v i one (literal_fine s k d v i)

one_number : (s : Scope) (n : ℤ) (at : ℕ) (v : Value) → IsLiteral s kind.Num (literal.Num n at) v → value.Num n ≡ v
one_number s _ _ _ (is.num_literal n at) = refl

one_text : (s : Scope) (t : List ℕ) (at : ℕ) (v : Value) → IsLiteral s kind.Word (literal.Text t at) v → value.Word t ≡ v
one_text s _ _ _ (is.text_literal t at) = refl

visible_fault : (s : Scope) (k : KindPlan) (d : Literal) (f : CheckErr) → IsVisible s d → BreaksLiteral s k d f → broken.Kind (literal_place d) ≡ f
visible_fault s k _ _ visible (breaks.unknown_label x free) = absurd (stands_or_free s x visible.0 visible.1.found free)
visible_fault s k _ _ visible (breaks.other_kind d v none) = refl

literal_refused : (s : Scope) (k : KindPlan) (d : Literal) → IsVisible s d → ((v : Value) → IsLiteral s k d v → ⊥) → Agrees (IsLiteral s k d) (BreaksLiteral s k d) (kind_at (literal_place d))
literal_refused s k d visible none = only_fault _ (breaks.other_kind d visible none) (λ f b. visible_fault s k d f visible b) none

-- What a label's name stands for where a value of the kind is wanted.
abbrev Labels : KindPlan → Meaning → Value → Type 0
Labels k m v = (enum : ℕ) × (l : ℕ) × (k ≡ kind.Label enum) × (m ≡ meaning.Label enum l) × (value.Label l ≡ v)

label_is : (s : Scope) (k : KindPlan) (x : Name) (v : Value) → (m : Meaning) × Stands s x m × Labels k m v → IsLiteral s k (literal.Named x) v
label_is s k x v (m, t, (enum, l, i, j, e)) = rw (i, ← e) (is.label_literal x enum l (subst (Stands s x) j t))

is_label : (s : Scope) (k : KindPlan) (x : Name) (v : Value) → IsLiteral s k (literal.Named x) v → (m : Meaning) × Stands s x m × Labels k m v
is_label s _ _ _ (is.label_literal x enum l t) = (meaning.Label enum l, t, (enum, l, refl, refl, refl))

no_label_is : (s : Scope) (k : KindPlan) (x : Name) (f : CheckErr) → Unmeant s x (Labels k) f → BreaksLiteral s k (literal.Named x) f
no_label_is s k x f (inl (t, e)) = subst (BreaksLiteral s k (literal.Named x)) e (breaks.unknown_label x t)
no_label_is s k x f (inr (m, t, (none, e))) = subst (BreaksLiteral s k (literal.Named x)) e (breaks.other_kind (literal.Named x) (m, t) labels)
  where
    labels : (v : Value) → IsLiteral s k (literal.Named x) v → ⊥
    labels v i = let j = is_label s k x v i in let same : m ≡ j.0 = stands_once s x m j.0 t.found j.1 in none v (rw same j.2)

is_no_label : (s : Scope) (k : KindPlan) (x : Name) (f : CheckErr) → BreaksLiteral s k (literal.Named x) f → Unmeant s x (Labels k) f
is_no_label s k _ _ (breaks.unknown_label x t) = inl (t, refl)
is_no_label s k x _ (breaks.other_kind _ (m, t) none) = inr (m, t, ((λ v i. none v (label_is s k x v (m, t, i))), refl))

literal_named : (s : Scope) (k : KindPlan) (x : Name) (g : Option Meaning → Result Value CheckErr) → g None ≡ Err (broken.Name x.at) → ((m : Meaning) → IsKinded (Labels k m) x.at (g (Some m))) → Agrees (IsLiteral s k (literal.Named x)) (BreaksLiteral s k (literal.Named x)) (g (find s x.text))
literal_named s k x g unknown h = in_words (named_agrees s x g unknown h) (label_is s k x) (is_label s k x) (no_label_is s k x) (is_no_label s k x)

labelled_by : (wanted : ℕ) (m : Meaning) (v : Value) → (i : Labels (kind.Label wanted) m v) → m ≡ meaning.Label wanted i.1
labelled_by wanted m v (enum, l, i, j, e) = cc

labelled : (wanted at : ℕ) (m : Meaning) → IsKinded (Labels (kind.Label wanted) m) at (and_then (λ l. Ok (value.Label l)) (label_named wanted at (Some m)))
labelled wanted at m = in_words (then_made value.Label (label_kinded wanted at m)) (λ v i. (wanted, i.0, refl, i.1, i.2)) back blames blamed
  where
    back : (v : Value) → Labels (kind.Label wanted) m v → (l : ℕ) × (m ≡ meaning.Label wanted l) × (value.Label l ≡ v)
    back v (enum, l, i, j, e) = (l, cc, e)

    blames : (f : CheckErr) → ((l : ℕ) → m ≡ meaning.Label wanted l → ⊥) × (broken.Kind at ≡ f) → ((v : Value) → Labels (kind.Label wanted) m v → ⊥) × (broken.Kind at ≡ f)
    blames f (none, e) = (λ v i. none (back v i).0 (back v i).1, e)

    blamed : (f : CheckErr) → ((v : Value) → Labels (kind.Label wanted) m v → ⊥) × (broken.Kind at ≡ f) → ((l : ℕ) → m ≡ meaning.Label wanted l → ⊥) × (broken.Kind at ≡ f)
    blamed f (none, e) = (λ l i. none (value.Label l) (wanted, l, refl, i, refl), e)

pub literal_agrees : (s : Scope) (k : KindPlan) (d : Literal) → Agrees (IsLiteral s k d) (BreaksLiteral s k d) (literal_of s k d)
literal_agrees s kind.Num (literal.Num n at) = literal_value s kind.Num (literal.Num n at) (value.Num n) (is.num_literal n at) (one_number s n at)
literal_agrees s kind.Num (literal.Text t at) = literal_refused s kind.Num (literal.Text t at) tt (λ v i. elim i [ ])
literal_agrees s kind.Num (literal.Named x) = literal_named s kind.Num x (λ o. no_label x.at o) refl (λ m. of_no_kind x.at (λ v i. let e = i.2 in cc))
literal_agrees s kind.Word (literal.Num n at) = literal_refused s kind.Word (literal.Num n at) tt (λ v i. elim i [ ])
literal_agrees s kind.Word (literal.Text t at) = literal_value s kind.Word (literal.Text t at) (value.Word t) (is.text_literal t at) (one_text s t at)
literal_agrees s kind.Word (literal.Named x) = literal_named s kind.Word x (λ o. no_label x.at o) refl (λ m. of_no_kind x.at (λ v i. let e = i.2 in cc))
literal_agrees s (kind.Label enum) (literal.Num n at) = literal_refused s (kind.Label enum) (literal.Num n at) tt (λ v i. elim i [ ])
literal_agrees s (kind.Label enum) (literal.Text t at) = literal_refused s (kind.Label enum) (literal.Text t at) tt (λ v i. elim i [ ])
literal_agrees s (kind.Label enum) (literal.Named x) = literal_named s (kind.Label enum) x (λ o. and_then (λ l. Ok (value.Label l)) (label_named enum x.at o)) refl (λ m. labelled enum x.at m)

-- A name that stands for no label of the enum.
pub other_label : (s : Scope) (enum : ℕ) (x : Name) (f : CheckErr) → Unmeant s x (λ m (l : ℕ). m ≡ meaning.Label enum l) f → BreaksLiteral s (kind.Label enum) (literal.Named x) f
other_label s enum x f (inl b) = no_label_is s (kind.Label enum) x f (inl b)
other_label s enum x f (inr (m, t, (none, e))) = no_label_is s (kind.Label enum) x f (inr (m, t, ((λ v i. none i.1 (labelled_by enum m v i)), e)))

pub label_not : (s : Scope) (enum : ℕ) (x : Name) (f : CheckErr) → BreaksLiteral s (kind.Label enum) (literal.Named x) f → Unmeant s x (λ m (l : ℕ). m ≡ meaning.Label enum l) f
label_not s enum x f b = go (is_no_label s (kind.Label enum) x f b)
  where
    go : Unmeant s x (Labels (kind.Label enum)) f → Unmeant s x (λ m (l : ℕ). m ≡ meaning.Label enum l) f
    go (inl i) = inl i
    go (inr (m, t, (none, e))) = inr (m, t, ((λ l i. none (value.Label l) (enum, l, refl, i, refl)), e))

-- The value of an empty text.
abbrev pub BreaksDefault : Scope → KindPlan → Option Literal → CheckErr → Type 0
BreaksDefault s k d f = (l : Literal) × (d ≡ Some l) × BreaksLiteral s k l f

no_default_alone : (s : Scope) (k : KindPlan) (v : Option Value) → IsDefault s k None v → None ≡ v
no_default_alone s k _ is.no_default = refl

default_is : (s : Scope) (k : KindPlan) (d : Literal) (o : Option Value) → (v : Value) × IsLiteral s k d v × (Some v ≡ o) → IsDefault s k (Some d) o
default_is s k d o (v, i, e) = subst (IsDefault s k (Some d)) e (is.default d v i)

is_default : (s : Scope) (k : KindPlan) (d : Literal) (o : Option Value) → IsDefault s k (Some d) o → (v : Value) × IsLiteral s k d v × (Some v ≡ o)
is_default s k _ _ (is.default d v i) = (v, i, refl)

pub default_agrees : (s : Scope) (k : KindPlan) (d : Option Literal) → Agrees (IsDefault s k d) (BreaksDefault s k d) (default_of s k d)
default_agrees s k None = only_value None is.no_default (no_default_alone s k) (λ f b. let e = b.1 in cc)
default_agrees s k (Some d) =
    in_words (then_made (λ v. Some v) (literal_agrees s k d)) (default_is s k d) (is_default s k d)
    (λ f b. (d, refl, b))
    (λ f b. let same : d ≡ b.0 = cc (b.1) in subst (λ (l : Literal). BreaksLiteral s k l f) (sym same) b.2)
