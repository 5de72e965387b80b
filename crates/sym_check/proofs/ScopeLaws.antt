-- What names stand for in the scope of a declaration, which has its own name as the last.
use Rattle.std.proofs.Common.{◌≡◌, ◌∙◌, ap, refl, ℕ, Bool, true, false, List, [], ◌∷◌, ◌++◌, Option, Some, None}
use Rattle.std.specs.Prelude.{if◌then◌else◌, Err}
use Rattle.sym_base.specs.declared.tree.name.Name.{Name}
use Rattle.sym_check.specs.declared.elaborate.error.CheckErr.{CheckErr}
use Rattle.sym_check.specs.declared.elaborate.error.CheckErr.TheVariants as broken
use Rattle.sym_check.specs.declared.elaborate.scope.Meaning.{Meaning}
use Rattle.sym_check.specs.declared.elaborate.scope.Meaning.TheVariants as meaning
use Rattle.sym_check.specs.declared.elaborate.scope.Entry.{Entry}
use Rattle.sym_check.specs.Meaning.Conditions.{same_word}
use Rattle.sym_check.specs.Rules.Declarations.{unfinished}
use Rattle.sym_check.specs.Checking.Declaring.{unseen_by}
use Rattle.sym_check.specs.Elaborate.Declarations.{enum_named, label_named, no_label}
use Rattle.sym_check.specs.Rules.Scopes.{Scope, find}

-- What the name stands for earlier, or else what the last entry says.
abbrev or_last : Option Meaning → Entry → List ℕ → Option Meaning
or_last (Some m) e text = Some m
or_last None e text = if same_word e.name text then Some e.meaning else None

chosen : (b : Bool) (m : Meaning) (rest more : Option Meaning) (e : Entry) (text : List ℕ) → more ≡ or_last rest e text → (if b then Some m else more) ≡ or_last (if b then Some m else rest) e text
chosen true m rest more e text h = refl
chosen false m rest more e text h = h

find_more : (s : Scope) (e : Entry) (text : List ℕ) → find (s ++ e ∷ []) text ≡ or_last (find s text) e text
find_more [] e text = refl
find_more (d ∷ rest) e text = chosen (same_word d.name text) d.meaning (find rest text) (find (rest ++ e ∷ []) text) e text (find_more rest e text)

pub found_earlier : (s : Scope) (own : Name) (text : List ℕ) (m : Meaning) → find s text ≡ Some m → find (unfinished s own) text ≡ Some m
found_earlier s own text m e =
    find_more s (record { name = own.text; meaning = meaning.Unfinished }) text
    ∙ ap (λ o. or_last o (record { name = own.text; meaning = meaning.Unfinished }) text) e

abbrev own_or_none : Bool → Option Meaning
own_or_none b = if b then Some meaning.Unfinished else None

abbrev kind_or_name : Bool → ℕ → CheckErr
kind_or_name b at = if b then broken.Kind at else broken.Name at

not_earlier : (s : Scope) (own : Name) (text : List ℕ) → find s text ≡ None → find (unfinished s own) text ≡ own_or_none (same_word own.text text)
not_earlier s own text e =
    find_more s (record { name = own.text; meaning = meaning.Unfinished }) text
    ∙ ap (λ o. or_last o (record { name = own.text; meaning = meaning.Unfinished }) text) e

enum_of_own : (b : Bool) (at : ℕ) → enum_named at (own_or_none b) ≡ Err (kind_or_name b at)
enum_of_own true at = refl
enum_of_own false at = refl

label_of_own : (b : Bool) (wanted at : ℕ) → label_named wanted at (own_or_none b) ≡ Err (kind_or_name b at)
label_of_own true wanted at = refl
label_of_own false wanted at = refl

no_label_of_own : {A : Type 0} (b : Bool) (at : ℕ) → no_label {A = A} at (own_or_none b) ≡ Err (kind_or_name b at)
no_label_of_own true at = refl
no_label_of_own false at = refl

pub enum_unseen : (s : Scope) (own x : Name) → find s x.text ≡ None → enum_named x.at (find (unfinished s own) x.text) ≡ Err (unseen_by own x)
enum_unseen s own x e = ap (enum_named x.at) (not_earlier s own x.text e) ∙ enum_of_own (same_word own.text x.text) x.at

pub label_unseen : (s : Scope) (own : Name) (wanted : ℕ) (x : Name) → find s x.text ≡ None → label_named wanted x.at (find (unfinished s own) x.text) ≡ Err (unseen_by own x)
label_unseen s own wanted x e = ap (label_named wanted x.at) (not_earlier s own x.text e) ∙ label_of_own (same_word own.text x.text) wanted x.at

pub no_label_unseen : {A : Type 0} (s : Scope) (own x : Name) → find s x.text ≡ None → no_label {A = A} x.at (find (unfinished s own) x.text) ≡ Err (unseen_by own x)
no_label_unseen {A} s own x e = ap (no_label {A = A} x.at) (not_earlier s own x.text e) ∙ no_label_of_own (same_word own.text x.text) x.at

-- By what stands earlier, or else by the declaration's own name.
pub ruleset enum_beside = (found_earlier, enum_unseen)

pub ruleset label_beside = (found_earlier, label_unseen)

pub ruleset none_beside = (found_earlier, no_label_unseen)
