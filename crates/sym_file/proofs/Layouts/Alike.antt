-- Results that are the same, the places of faults aside.
use Rattle.std.proofs.Common.{◌≡◌, refl, sym, ap, ◌∙◌, ℕ, ◌+◌, Bool, true, false, if◌then◌else◌, List, [], ◌∷◌, map, Option, Some, None, Result, Ok, Err}
use Rattle.sym_check.specs.declared.elaborate.error.CheckErr.{CheckErr}
use Rattle.sym_check.specs.declared.elaborate.error.CheckErr.TheVariants as broken
use Rattle.sym_check.specs.declared.elaborate.scope.Meaning.{Meaning}
use Rattle.sym_check.specs.Meaning.Arithmetic.{and_then}
use Rattle.sym_check.specs.Elaborate.Expressions.{kind_at}
use Rattle.sym_check.specs.Elaborate.Statements.{unless_taken}
use Rattle.sym_check.specs.Rules.InOrder.{Planned, each}
use Rattle.sym_check.specs.Rules.Scopes.{Scope}
use Rattle.sym_file.specs.Layouts.{unplaced}

pub data Same {A : Type 0} : A → A → Type 0 where
  same : (x : A) → Same x x

pub data Alike {A : Type 0} (P : A → A → Type 0) : Result A CheckErr → Result A CheckErr → Type 0 where
  fine : (x y : A) → P x y → Alike P (Ok x) (Ok y)
  wrong : (f g : CheckErr) → unplaced f ≡ unplaced g → Alike P (Err f) (Err g)

pub alike : {A : Type 0} {x : A} → Alike Same (Ok x) (Ok x)
alike {A} {x} = fine x x (same x)

pub kind_alike : {A : Type 0} {P : A → A → Type 0} {a b : ℕ} → Alike P (kind_at a) (kind_at b)
kind_alike {A} {P} {a} {b} = wrong (broken.Kind a) (broken.Kind b) refl

pub name_alike : {A : Type 0} {P : A → A → Type 0} {a b : ℕ} → Alike P (Err (broken.Name a)) (Err (broken.Name b))
name_alike {A} {P} {a} {b} = wrong (broken.Name a) (broken.Name b) refl

pub twice_alike : {A : Type 0} {P : A → A → Type 0} {a b : ℕ} → Alike P (Err (broken.Twice a)) (Err (broken.Twice b))
twice_alike {A} {P} {a} {b} = wrong (broken.Twice a) (broken.Twice b) refl

pub range_alike : {A : Type 0} {P : A → A → Type 0} {a b : ℕ} → Alike P (Err (broken.Range a)) (Err (broken.Range b))
range_alike {A} {P} {a} {b} = wrong (broken.Range a) (broken.Range b) refl

pub linear_alike : {A : Type 0} {P : A → A → Type 0} {a b : ℕ} → Alike P (Err (broken.NotLinear a)) (Err (broken.NotLinear b))
linear_alike {A} {P} {a} {b} = wrong (broken.NotLinear a) (broken.NotLinear b) refl

-- What goes on with values that are alike is alike.
pub going_on : {A B : Type 0} {P : A → A → Type 0} {Q : B → B → Type 0} {r q : Result A CheckErr} {f g : A → Result B CheckErr}
    → Alike P r q → ((x y : A) → P x y → Alike Q (f x) (g y)) → Alike Q (and_then f r) (and_then g q)
going_on (fine x y h) k = k x y h
going_on (wrong f g e) k = wrong f g e

given_same : {A B : Type 0} {Q : B → B → Type 0} {f g : A → Result B CheckErr} → ((x : A) → Alike Q (f x) (g x)) → (x y : A) → Same x y → Alike Q (f x) (g y)
given_same k _ _ (same x) = k x

pub then_alike : {A B : Type 0} {Q : B → B → Type 0} {r q : Result A CheckErr} {f g : A → Result B CheckErr}
    → Alike Same r q → ((x : A) → Alike Q (f x) (g x)) → Alike Q (and_then f r) (and_then g q)
then_alike h k = going_on h (given_same k)

pub if_alike : {A : Type 0} {P : A → A → Type 0} {r q s t : Result A CheckErr} (b : Bool)
    → Alike P r q → Alike P s t → Alike P (if b then r else s) (if b then q else t)
if_alike true h k = h
if_alike false h k = k

pub unless_taken-alike : {A : Type 0} {P : A → A → Type 0} {r q : Result A CheckErr} (a b : ℕ) (m : Option Meaning)
    → Alike P r q → Alike P (unless_taken a m r) (unless_taken b m q)
unless_taken-alike a b None h = h
unless_taken-alike a b (Some m) h = twice_alike

-- Declarations in order are alike if each is.
pub each-alike : {A B : Type 0} (bare : A → A) (one other : Scope → ℕ → A → Result (Planned B) CheckErr)
    → ((s : Scope) (n : ℕ) (a : A) → Alike Same (one s n a) (other s n (bare a)))
    → (s : Scope) (n : ℕ) (items : List A) → Alike Same (each one s n items) (each other s n (map bare items))
each-alike bare one other h s n [] = alike
each-alike bare one other h s n (a ∷ rest) =
    then_alike (h s n a) (λ b. then_alike (each-alike bare one other h b.scope (n + 1) rest) (λ bs. alike))

-- The value, and the fault, of the other one.
pub value_there : {A : Type 0} {r q : Result A CheckErr} (x : A) → Alike Same r q → r ≡ Ok x → q ≡ Ok x
value_there x (fine _ _ (same y)) e = e
value_there x (wrong f g h) e = absurd (cc)

pub value_here : {A : Type 0} {r q : Result A CheckErr} (x : A) → Alike Same r q → q ≡ Ok x → r ≡ Ok x
value_here x (fine _ _ (same y)) e = e
value_here x (wrong f g h) e = absurd (cc)

err_same : {A : Type 0} (f g : CheckErr) → ◌≡◌ {A = Result A CheckErr} (Err f) (Err g) → f ≡ g
err_same f g e = cc

pub fault_there : {A : Type 0} {r q : Result A CheckErr} (f : CheckErr) → Alike Same r q → r ≡ Err f → (g : CheckErr) × (q ≡ Err g) × (unplaced f ≡ unplaced g)
fault_there f (fine _ _ (same y)) e = absurd (cc)
fault_there f (wrong k g h) e = (g, refl, ap unplaced (sym (err_same k f e)) ∙ h)

pub fault_here : {A : Type 0} {r q : Result A CheckErr} (f : CheckErr) → Alike Same r q → q ≡ Err f → (g : CheckErr) × (r ≡ Err g) × (unplaced f ≡ unplaced g)
fault_here f (fine _ _ (same y)) e = absurd (cc)
fault_here f (wrong g k h) e = (g, refl, ap unplaced (sym (err_same k f e)) ∙ sym h)
