-- Results that agree with two relations: a value is answered exactly where it is so, and a fault
-- exactly where it is one.
use Rattle.std.specs.Bool.{Decides}
use Rattle.std.proofs.lemmas.Bool.Decides.{not_from_Decides}
use Rattle.std.proofs.Common.{Bool, true, false, if◌then◌else◌, ◌≡◌, refl, sym, ap, subst, ◌∙◌, ℕ, ◌⊎◌, inl, inr, Option, Some, None, Result, Ok, Err}
use Rattle.sym_base.specs.declared.tree.name.Name.{Name}
use Rattle.sym_check.specs.Meaning.Arithmetic.{and_then}
use Rattle.sym_check.specs.declared.elaborate.error.CheckErr.{CheckErr}
use Rattle.sym_check.specs.declared.elaborate.error.CheckErr.TheVariants as broken
use Rattle.sym_check.specs.declared.elaborate.scope.Meaning.{Meaning}
use Rattle.sym_check.specs.Rules.Scopes.{Scope, find, Stands, IsFree}
use Rattle.sym_check.specs.Elaborate.Expressions.{kind_at}
use Rattle.sym_check.specs.Elaborate.Statements.{unless_taken}

pub record Agrees {A : Type 0} (Is : A → Type 0) (Broken : CheckErr → Type 0) (r : Result A CheckErr) : Type 0 where
  pub complete : (a : A) → Is a → r ≡ Ok a
  pub sound : (a : A) → r ≡ Ok a → Is a
  pub finds : (f : CheckErr) → Broken f → r ≡ Err f
  pub breaks : (f : CheckErr) → r ≡ Err f → Broken f

-- The same relations in other words.
pub in_words : {A : Type 0} {Is Is' : A → Type 0} {Broken Broken' : CheckErr → Type 0} {r : Result A CheckErr} → Agrees Is Broken r → ((a : A) → Is a → Is' a) → ((a : A) → Is' a → Is a) → ((f : CheckErr) → Broken f → Broken' f) → ((f : CheckErr) → Broken' f → Broken f) → Agrees Is' Broken' r
in_words h to from blames blamed = record {
  complete = λ a i. h.complete a (from a i);
  sound = λ a e. to a (h.sound a e);
  finds = λ f b. h.finds f (blamed f b);
  breaks = λ f e. blames f (h.breaks f e);
}

ok_same : {A : Type 0} (a b : A) → ◌≡◌ {A = Result A CheckErr} (Ok a) (Ok b) → a ≡ b
ok_same a b e = cc

err_same : {A : Type 0} (f g : CheckErr) → ◌≡◌ {A = Result A CheckErr} (Err f) (Err g) → f ≡ g
err_same f g e = cc

ok_err : {A : Type 0} (a : A) (f : CheckErr) → ◌≡◌ {A = Result A CheckErr} (Ok a) (Err f) → ⊥
ok_err a f e = cc

err_ok : {A : Type 0} (f : CheckErr) (a : A) → ◌≡◌ {A = Result A CheckErr} (Err f) (Ok a) → ⊥
err_ok f a e = cc

-- What a name stands for is one thing, and one that stands for something isn't free.
pub stands_once : (s : Scope) (x : Name) (m : Meaning) (n : Meaning) → find s x.text ≡ Some m → Stands s x n → m ≡ n
stands_once s x m n e t = let g : find s x.text ≡ Some n = t.found in cc (e, g)

pub stands_or_free : (s : Scope) (x : Name) (m : Meaning) → find s x.text ≡ Some m → IsFree s x → ⊥
stands_or_free s x m e t = let g : find s x.text ≡ None = t.missing in cc (e, g)

-- A value, and a fault, that are the only ones.
pub only_value : {A : Type 0} {Is : A → Type 0} {Broken : CheckErr → Type 0} (a : A) → Is a → ((b : A) → Is b → a ≡ b) → ((f : CheckErr) → Broken f → ⊥) → Agrees Is Broken (Ok a)
only_value {A} {Is} a is one fine = record {
  complete = λ b i. ap (λ x. Ok x) (one b i);
  sound = λ b e. subst Is (ok_same a b e) is;
  finds = λ f i. absurd (fine f i);
  breaks = λ f e. absurd (ok_err a f e);
}

pub only_fault : {A : Type 0} {Is : A → Type 0} {Broken : CheckErr → Type 0} (f : CheckErr) → Broken f → ((g : CheckErr) → Broken g → f ≡ g) → ((a : A) → Is a → ⊥) → Agrees Is Broken (Err f)
only_fault {A} {Is} {Broken} f is one none = record {
  complete = λ b i. absurd (none b i);
  sound = λ b e. absurd (err_ok f b e);
  finds = λ g i. ap (λ x. Err x) (one g i);
  breaks = λ g e. subst Broken (err_same f g e) is;
}

-- Just this value.
pub ok_agrees : {A : Type 0} (a : A) → Agrees (λ b. a ≡ b) (λ f. ⊥) (Ok a)
ok_agrees a = only_value a refl (λ b e. e) (λ f e. e)

-- One step after another. What comes later is looked at only where the first step has a value.
after_value : {A B : Type 0} (Is : A → Type 0) (Broken : CheckErr → Type 0) (Next : A → B → Type 0) (Later : A → CheckErr → Type 0) (a : A) (k : A → Result B CheckErr) → Agrees Is Broken (Ok a) → ((a : A) → Is a → Agrees (Next a) (Later a) (k a)) → Agrees (λ b. (a : A) × Is a × Next a b) (λ f. Broken f ⊎ ((a : A) × Is a × Later a f)) (k a)
after_value {A} {B} Is Broken Next Later a k h next =
    let is : Is a = h.sound a refl in
    record {
      complete = goes;
      sound = λ b e. (a, is, (next a is).sound b e);
      finds = fails;
      breaks = λ f e. inr (a, is, (next a is).breaks f e);
    }
  where
    goes : (b : B) → (a : A) × Is a × Next a b → k a ≡ Ok b
    goes b (c, i, n) = let same : a ≡ c = ok_same a c (h.complete c i) in rw same ((next c i).complete b n)

    fails : (f : CheckErr) → Broken f ⊎ ((a : A) × Is a × Later a f) → k a ≡ Err f
    fails f (inl i) = absurd (ok_err a f (h.finds f i))
    fails f (inr (c, i, n)) = let same : a ≡ c = ok_same a c (h.complete c i) in rw same ((next c i).finds f n)

after_fault : {A B : Type 0} (Is : A → Type 0) (Broken : CheckErr → Type 0) (Next : A → B → Type 0) (Later : A → CheckErr → Type 0) (f : CheckErr) → Agrees Is Broken (Err f) → Agrees (λ b. (a : A) × Is a × Next a b) (λ g. Broken g ⊎ ((a : A) × Is a × Later a g)) (Err f)
after_fault {A} {B} Is Broken Next Later f h = only_fault f (inl (h.breaks f refl)) one none
  where
    one : (g : CheckErr) → Broken g ⊎ ((a : A) × Is a × Later a g) → f ≡ g
    one g (inl i) = err_same f g (h.finds g i)
    one g (inr (a, i, n)) = absurd (err_ok f a (h.complete a i))

    none : (b : B) → (a : A) × Is a × Next a b → ⊥
    none b (a, i, n) = err_ok f a (h.complete a i)

pub then_agrees : {A B : Type 0} {Is : A → Type 0} {Broken : CheckErr → Type 0} {Next : A → B → Type 0} {Later : A → CheckErr → Type 0} {r : Result A CheckErr} {k : A → Result B CheckErr} → Agrees Is Broken r → ((a : A) → Is a → Agrees (Next a) (Later a) (k a)) → Agrees (λ b. (a : A) × Is a × Next a b) (λ f. Broken f ⊎ ((a : A) × Is a × Later a f)) (and_then k r)
then_agrees {A} {B} {Is} {Broken} {Next} {Later} {r} {k} h next = go r h
  where
    go : (o : Result A CheckErr) → Agrees Is Broken o → Agrees (λ b. (a : A) × Is a × Next a b) (λ f. Broken f ⊎ ((a : A) × Is a × Later a f)) (and_then k o)
    go (Ok a) i = after_value Is Broken Next Later a k i next
    go (Err f) i = after_fault Is Broken Next Later f i

-- What is made of a value.
pub then_made : {A B : Type 0} {Is : A → Type 0} {Broken : CheckErr → Type 0} {r : Result A CheckErr} (make : A → B) → Agrees Is Broken r → Agrees (λ b. (a : A) × Is a × (make a ≡ b)) Broken (and_then (λ a. Ok (make a)) r)
then_made {A} {B} {Is} {Broken} make h = in_words (then_agrees h (λ a is. ok_agrees (make a))) (λ b t. t) (λ b t. t) made (λ f b. inl b)
  where
    made : (f : CheckErr) → Broken f ⊎ ((a : A) × Is a × ⊥) → Broken f
    made f (inl b) = b
    made f (inr (a, is, e)) = absurd e

-- What is so or is of a wrong kind, at this place.
abbrev pub IsKinded : {A : Type 0} → (A → Type 0) → ℕ → Result A CheckErr → Type 0
IsKinded {A} Is at r = Agrees Is (λ f. ((a : A) → Is a → ⊥) × (broken.Kind at ≡ f)) r

pub of_kind : {A : Type 0} {Is : A → Type 0} (at : ℕ) (a : A) → Is a → ((b : A) → Is b → a ≡ b) → IsKinded Is at (Ok a)
of_kind at a is one = only_value a is one (λ f b. b.0 a is)

pub of_no_kind : {A : Type 0} {Is : A → Type 0} (at : ℕ) → ((a : A) → Is a → ⊥) → IsKinded Is at (kind_at at)
of_no_kind at none = only_fault (broken.Kind at) (none, refl) (λ g b. b.1) none

-- Two steps that are refused at one place.
pub kinded_then : {A B : Type 0} {Is : A → Type 0} {Next : A → B → Type 0} {r : Result A CheckErr} {k : A → Result B CheckErr} (at : ℕ) → IsKinded Is at r → ((a : A) → Is a → IsKinded (Next a) at (k a)) → IsKinded (λ b. (a : A) × Is a × Next a b) at (and_then k r)
kinded_then {A} {B} {Is} {Next} {r} {k} at h next = in_words (then_agrees h next) (λ b t. t) (λ b t. t) blames (go r h)
  where
    blames : (f : CheckErr) → (((a : A) → Is a → ⊥) × (broken.Kind at ≡ f)) ⊎ ((a : A) × Is a × (((b : B) → Next a b → ⊥) × (broken.Kind at ≡ f))) → ((b : B) → (a : A) × Is a × Next a b → ⊥) × (broken.Kind at ≡ f)
    blames f (inl (none, e)) = (λ b t. none t.0 t.1, e)
    blames f (inr (a, i, (none, e))) = (λ b t. let same : t.0 ≡ a = once t.0 a t.1 i in none b (subst (λ c. Next c b) same t.2), e)
      where
        once : (b c : A) → Is b → Is c → b ≡ c
        once b c i j = let p : r ≡ Ok b = h.complete b i in let q : r ≡ Ok c = h.complete c j in ok_same b c (sym p ∙ q)

    go : (o : Result A CheckErr) → IsKinded Is at o → (f : CheckErr) → ((b : B) → (a : A) × Is a × Next a b → ⊥) × (broken.Kind at ≡ f) → (((a : A) → Is a → ⊥) × (broken.Kind at ≡ f)) ⊎ ((a : A) × Is a × (((b : B) → Next a b → ⊥) × (broken.Kind at ≡ f)))
    go (Ok a) h f (none, e) = let is : Is a = h.sound a refl in inr (a, is, ((λ b n. none b (a, is, n)), e))
    go (Err g) h f (none, e) = let b : ((a : A) → Is a → ⊥) × (broken.Kind at ≡ g) = h.breaks g refl in inl (b.0, e)

-- Two values of one result are the same.
pub one_value : {A : Type 0} {Is : A → Type 0} {Broken : CheckErr → Type 0} {r : Result A CheckErr} → Agrees Is Broken r → (a b : A) → Is a → Is b → a ≡ b
one_value {A} {Is} {Broken} {r} h a b i j = let p : r ≡ Ok a = h.complete a i in let q : r ≡ Ok b = h.complete b j in ok_same a b (sym p ∙ q)

-- Goes on where a name is free.
pub free_agrees : {A : Type 0} {Is : A → Type 0} {Broken : CheckErr → Type 0} {r : Result A CheckErr} (s : Scope) (x : Name) → Agrees Is Broken r → Agrees (λ a. IsFree s x × Is a) (λ f. ((m : Meaning) × Stands s x m × (broken.Twice x.at ≡ f)) ⊎ (IsFree s x × Broken f)) (unless_taken x.at (find s x.text) r)
free_agrees {A} {Is} {Broken} {r} s x h = go (find s x.text) refl
  where
    go : (o : Option Meaning) → find s x.text ≡ o → Agrees (λ a. IsFree s x × Is a) (λ f. ((m : Meaning) × Stands s x m × (broken.Twice x.at ≡ f)) ⊎ (IsFree s x × Broken f)) (unless_taken x.at o r)
    go None e = in_words h (λ a i. (record { missing = e }, i)) (λ a i. i.1) (λ f i. inr (record { missing = e }, i)) back
      where
        back : (f : CheckErr) → ((m : Meaning) × Stands s x m × (broken.Twice x.at ≡ f)) ⊎ (IsFree s x × Broken f) → Broken f
        back f (inl (m, t, i)) = absurd (stands_or_free s x m t.found (record { missing = e }))
        back f (inr (t, i)) = i
    go (Some m) e = only_fault (broken.Twice x.at) (inl (m, record { found = e }, refl)) one (λ a i. stands_or_free s x m e i.0)
      where
        one : (g : CheckErr) → ((n : Meaning) × Stands s x n × (broken.Twice x.at ≡ g)) ⊎ (IsFree s x × Broken g) → broken.Twice x.at ≡ g
        one g (inl (n, t, i)) = i
        one g (inr (t, i)) = absurd (stands_or_free s x m e t)

-- Where a test is true.
pub where_true : {A : Type 0} {Is : A → Type 0} {Broken : CheckErr → Type 0} {P : Type 0} {r s : Result A CheckErr} (b : Bool) → Decides b P → (P → Agrees Is Broken r) → ((P → ⊥) → Agrees Is Broken s) → Agrees Is Broken (if b then r else s)
where_true true d there else_ = there (d.0 refl)
where_true false d there else_ = else_ (not_from_Decides false d refl)

-- What a name stands for, or where it stands for nothing.
pub named_agrees : {A : Type 0} {Is : Meaning → A → Type 0} {Broken : Meaning → CheckErr → Type 0} (s : Scope) (x : Name) (g : Option Meaning → Result A CheckErr) → g None ≡ Err (broken.Name x.at) → ((m : Meaning) → Agrees (Is m) (Broken m) (g (Some m))) → Agrees (λ a. (m : Meaning) × Stands s x m × Is m a) (λ f. (IsFree s x × (broken.Name x.at ≡ f)) ⊎ ((m : Meaning) × Stands s x m × Broken m f)) (g (find s x.text))
named_agrees {A} {Is} {Broken} s x g unknown h = go (find s x.text) refl
  where
    go : (o : Option Meaning) → find s x.text ≡ o → Agrees (λ a. (m : Meaning) × Stands s x m × Is m a) (λ f. (IsFree s x × (broken.Name x.at ≡ f)) ⊎ ((m : Meaning) × Stands s x m × Broken m f)) (g o)
    go None e = rw unknown (only_fault (broken.Name x.at) (inl (record { missing = e }, refl)) one (λ a i. stands_or_free s x i.0 i.1.found (record { missing = e })))
      where
        one : (f : CheckErr) → (IsFree s x × (broken.Name x.at ≡ f)) ⊎ ((m : Meaning) × Stands s x m × Broken m f) → broken.Name x.at ≡ f
        one f (inl (t, i)) = i
        one f (inr (m, t, i)) = absurd (stands_or_free s x m t.found (record { missing = e }))
    go (Some m) e = in_words (h m) (λ a i. (m, record { found = e }, i)) there (λ f i. inr (m, record { found = e }, i)) back
      where
        there : (a : A) → (n : Meaning) × Stands s x n × Is n a → Is m a
        there a (n, t, i) = let same : m ≡ n = stands_once s x m n e t in rw same i

        back : (f : CheckErr) → (IsFree s x × (broken.Name x.at ≡ f)) ⊎ ((n : Meaning) × Stands s x n × Broken n f) → Broken m f
        back f (inl (t, i)) = absurd (stands_or_free s x m e t)
        back f (inr (n, t, i)) = let same : m ≡ n = stands_once s x m n e t in rw same i
