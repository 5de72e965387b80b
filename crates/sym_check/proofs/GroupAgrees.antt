-- The group line agrees with what is so of it and with its first broken rule.
use Rattle.std.proofs.Common.{◌≡◌, refl, subst, ℕ, ◌⊎◌, inl, inr, List, []}
use Rattle.sym_base.specs.declared.tree.name.Name.{Name}
use Rattle.sym_check.specs.declared.elaborate.error.CheckErr.{CheckErr}
use Rattle.sym_check.specs.declared.elaborate.scope.Variable.TheVariants as var
use Rattle.sym_check.specs.declared.elaborate.scope.Meaning.{Meaning}
use Rattle.sym_check.specs.declared.elaborate.scope.Meaning.TheVariants as meaning
use Rattle.sym_check.specs.Rules.Scopes.{Scope, Stands, IsFree}
use Rattle.sym_check.specs.Rules.InOrder.{Each, Planned}
use Rattle.sym_check.specs.Rules.Declarations.{unfinished, IsGroupField, IsGroup}
use Rattle.sym_check.specs.Rules.Declarations as is
use Rattle.sym_check.specs.Breaks.Declarations.{BreaksGroupField, BreaksGroup}
use Rattle.sym_check.specs.Breaks.Declarations as breaks
use Rattle.sym_check.specs.Elaborate.Declarations.{field_named, group_field, group_of}
use Rattle.sym_check.proofs.Agreements.{Agrees, in_words, then_made, free_agrees, named_agrees}
use Rattle.sym_check.proofs.ListsAgree.{Plans, each_agrees}
use Rattle.sym_check.proofs.DeclarationsAgree.{Unmeant, IsFieldMeaning, field_kinded}
use Rattle.sym_check.proofs.StatesAgree.{TakenOr}

-- One name of the line.
abbrev group_planned : Scope → Name → ℕ → Planned ℕ
group_planned named x n = record { plan = n; scope = unfinished named x }

abbrev IsFieldOf : Scope → Scope → Name → Planned ℕ → Type 0
IsFieldOf s named x p = IsFree named x × ((n : ℕ) × ((m : Meaning) × Stands s x m × IsFieldMeaning m n) × (group_planned named x n ≡ p))

group_joined : (s named : Scope) (i : ℕ) (x : Name) (p : Planned ℕ) → IsFieldOf s named x p → IsGroupField s named i x p.plan p.scope
group_joined s named i x p (free, (n, (m, t, (k, j)), e)) = subst (λ (q : Planned ℕ). IsGroupField s named i x q.plan q.scope) e (is.group_field named i n x k free (subst (Stands s x) j t))

group_parted : (s named : Scope) (i : ℕ) (x : Name) (n : ℕ) (later : Scope) → IsGroupField s named i x n later → IsFieldOf s named x (record { plan = n; scope = later })
group_parted s _ _ _ _ _ (is.group_field named i n x k free t) = (free, (n, (meaning.Value k (var.Field n), t, (k, refl)), refl))

group_blamed : (s named : Scope) (i : ℕ) (x : Name) (f : CheckErr) → TakenOr named x (Unmeant s x IsFieldMeaning) f → BreaksGroupField s named i x f
group_blamed s named i x f (inl (m, t, e)) = subst (BreaksGroupField s named i x) e (breaks.named_twice x m t)
group_blamed s named i x f (inr (free, inl (t, e))) = subst (BreaksGroupField s named i x) e (breaks.unknown_field x free t)
group_blamed s named i x f (inr (free, inr (m, t, (none, e)))) = subst (BreaksGroupField s named i x) e (breaks.no_field x m free t (λ k n j. none n (k, j)))

group_blames : (s named : Scope) (i : ℕ) (x : Name) (f : CheckErr) → BreaksGroupField s named i x f → TakenOr named x (Unmeant s x IsFieldMeaning) f
group_blames s named i _ _ (breaks.named_twice x m t) = inl (m, t, refl)
group_blames s named i _ _ (breaks.unknown_field x free t) = inr (free, inl (t, refl))
group_blames s named i _ _ (breaks.no_field x m free t none) = inr (free, inr (m, t, ((λ n j. none j.0 n j.1), refl)))

group_field_agrees : (s : Scope) → Plans (IsGroupField s) (BreaksGroupField s) (group_field s)
group_field_agrees s named i x =
    in_words (free_agrees named x (then_made (group_planned named x) (named_agrees s x (λ o. field_named x.at o) refl (field_kinded x.at))))
    (group_joined s named i x) (λ p. group_parted s named i x p.plan p.scope) (group_blamed s named i x) (group_blames s named i x)

-- All of them.
group_is : (s : Scope) (group : List Name) (fields : List ℕ) → (g : Planned (List ℕ)) × Each (IsGroupField s) [] 0 group g.plan g.scope × (g.plan ≡ fields) → IsGroup s group fields
group_is s group fields (g, each, e) = subst (IsGroup s group) e (record { named = g.scope; each = each })

is_group : (s : Scope) (group : List Name) (fields : List ℕ) → IsGroup s group fields → (g : Planned (List ℕ)) × Each (IsGroupField s) [] 0 group g.plan g.scope × (g.plan ≡ fields)
is_group s group fields i = (record { plan = fields; scope = i.named }, i.each, refl)

pub group_agrees : (s : Scope) (group : List Name) → Agrees (IsGroup s group) (BreaksGroup s group) (group_of s group)
group_agrees s group =
    in_words (then_made (λ (g : Planned (List ℕ)). g.plan) (each_agrees (IsGroupField s) (BreaksGroupField s) (group_field s) (group_field_agrees s) [] 0 group))
    (group_is s group) (is_group s group) (λ f b. b) (λ f b. b)
