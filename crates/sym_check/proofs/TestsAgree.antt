-- The declarations of tests agree with what is so of them and with their first broken rule.
use Rattle.std.proofs.Common.{◌≡◌, refl, subst, ℕ, Bool, true, false, Decides, Contains, ◌⊎◌, inl, inr, ◌++◌, List, [], ◌∷◌, Result, Ok}
use Rattle.std.specs.List.{list_any}
use Rattle.std.proofs.lemmas.Cmp.{nat_list_eq_equiv}
use Rattle.std.proofs.lemmas.Bool.Decides.{Decides-eqb, not_from_Decides}
use Rattle.std.proofs.lemmas.Map.Views.{Contains-from_any, list_any-from_Contains}
use Rattle.std.proofs.lemmas.Slice.Eq.{slice_eq-Decides}
use Rattle.sym_base.specs.declared.tree.name.Name.{Name}
use Rattle.sym_base.specs.declared.tree.declaration.Param.{Param}
use Rattle.sym_base.specs.Trees.{ExprTree, TestTree}
use Rattle.sym_check.specs.declared.plan.script.KindPlan.{KindPlan}
use Rattle.sym_check.specs.Plan.CondPlans.{CondPlan}
use Rattle.sym_check.specs.Plan.ScriptPlans.{TestOf}
use Rattle.sym_check.specs.declared.elaborate.error.CheckErr.{CheckErr}
use Rattle.sym_check.specs.declared.elaborate.error.CheckErr.TheVariants as broken
use Rattle.sym_check.specs.declared.elaborate.scope.Variable.TheVariants as var
use Rattle.sym_check.specs.declared.elaborate.scope.Meaning.{Meaning}
use Rattle.sym_check.specs.declared.elaborate.scope.Meaning.TheVariants as meaning
use Rattle.sym_check.specs.Meaning.Conditions.{same_word}
use Rattle.sym_check.specs.Rules.Scopes.{Scope, entry, Stands, IsFree, in_tests}
use Rattle.sym_check.specs.Rules.Typing.{Typed, Truth, Means, truth, IsCondition}
use Rattle.sym_check.specs.Breaks.Expressions.{place, Breaks}
use Rattle.sym_check.specs.Elaborate.Expressions.{condition, infer}
use Rattle.sym_check.specs.Rules.InOrder.{Each, FirstBroken, Planned}
use Rattle.sym_check.specs.Rules.Declarations.{unfinished, IsKindOf, IsParamDecl, IsTestDecl}
use Rattle.sym_check.specs.Rules.Declarations as is
use Rattle.sym_check.specs.Breaks.Declarations.{BreaksKind, BreaksParam, BreaksTest}
use Rattle.sym_check.specs.Breaks.Declarations as breaks
use Rattle.sym_check.specs.Elaborate.Declarations.{unless_named, param_decl, test_decl}
use Rattle.sym_check.proofs.Agreements.{Agrees, in_words, only_fault, then_agrees, then_made, where_true, free_agrees, IsKinded, of_kind, of_no_kind}
use Rattle.sym_check.proofs.ExpressionsAgree.{infer_agrees}
use Rattle.sym_check.proofs.ListsAgree.{Plans, each_agrees}
use Rattle.sym_check.proofs.DeclarationsAgree.{kind_agrees}
use Rattle.sym_check.proofs.StatesAgree.{TakenOr}

-- Whether a name is among those of the script.
same_words : (a b : List ℕ) → Decides (same_word a b) (a ≡ b)
same_words a b = slice_eq-Decides Decides-eqb a b (same_word a b) refl

named_decides : (names : List (List ℕ)) (text : List ℕ) → Decides (list_any (same_word text) names) (Contains names text)
named_decides names text = (Contains-from_any (λ a b e. (same_words a b).0 e) text names, list_any-from_Contains nat_list_eq_equiv text names)

unnamed_agrees : {A : Type 0} {Is : A → Type 0} {Broken : CheckErr → Type 0} {r : Result A CheckErr} (names : List (List ℕ)) (x : Name) → Agrees Is Broken r → Agrees (λ a. (Contains names x.text → ⊥) × Is a) (λ f. (Contains names x.text × (broken.Twice x.at ≡ f)) ⊎ ((Contains names x.text → ⊥) × Broken f)) (unless_named names x r)
unnamed_agrees {A} {Is} {Broken} names x h =
    where_true (list_any (same_word x.text) names) (named_decides names x.text)
    (λ i. only_fault (broken.Twice x.at) (inl (i, refl)) (one i) (λ a j. j.0 i))
    (λ none. in_words h (λ a i. (none, i)) (λ a i. i.1) (λ f b. inr (none, b)) (back none))
  where
    one : Contains names x.text → (f : CheckErr) → (Contains names x.text × (broken.Twice x.at ≡ f)) ⊎ ((Contains names x.text → ⊥) × Broken f) → broken.Twice x.at ≡ f
    one i f (inl t) = t.1
    one i f (inr t) = absurd (t.0 i)

    back : (Contains names x.text → ⊥) → (f : CheckErr) → (Contains names x.text × (broken.Twice x.at ≡ f)) ⊎ ((Contains names x.text → ⊥) × Broken f) → Broken f
    back none f (inl t) = absurd (none t.0)
    back none f (inr t) = t.1

-- Parameters.
abbrev param_planned : Scope → ℕ → Param → KindPlan → Planned KindPlan
param_planned params n d k = record { plan = k; scope = params ++ entry d.name (meaning.Value k (var.Param n)) ∷ [] }

abbrev IsParamOf : List (List ℕ) → Scope → Scope → ℕ → Param → Planned KindPlan → Type 0
IsParamOf names s params n d p = (Contains names d.name.text → ⊥) × (IsFree params d.name × ((k : KindPlan) × IsKindOf s d.kind k × (param_planned params n d k ≡ p)))

param_joined : (names : List (List ℕ)) (s params : Scope) (n : ℕ) (d : Param) (p : Planned KindPlan) → IsParamOf names s params n d p → IsParamDecl names s params n d p.plan p.scope
param_joined names s params n d p (new, (t, (k, i, e))) = subst (λ (q : Planned KindPlan). IsParamDecl names s params n d q.plan q.scope) e (is.param params n d k new t i)

param_parted : (names : List (List ℕ)) (s params : Scope) (n : ℕ) (d : Param) (k : KindPlan) (later : Scope) → IsParamDecl names s params n d k later → IsParamOf names s params n d (record { plan = k; scope = later })
param_parted names s _ _ _ _ _ (is.param params n d k new t i) = (new, (t, (k, i, refl)))

abbrev ParamFaults : List (List ℕ) → Scope → Scope → Param → CheckErr → Type 0
ParamFaults names s params d f = (Contains names d.name.text × (broken.Twice d.name.at ≡ f)) ⊎ ((Contains names d.name.text → ⊥) × TakenOr params d.name (BreaksKind s d.kind) f)

param_blamed : (names : List (List ℕ)) (s params : Scope) (n : ℕ) (d : Param) (f : CheckErr) → ParamFaults names s params d f → BreaksParam names s params n d f
param_blamed names s params n d f (inl (i, e)) = subst (BreaksParam names s params n d) e (breaks.name_of_script d i)
param_blamed names s params n d f (inr (new, inl (m, t, e))) = subst (BreaksParam names s params n d) e (breaks.param_taken d m t)
param_blamed names s params n d f (inr (new, inr (t, b))) = breaks.in_param_kind d f new t b

either_taken : (names : List (List ℕ)) (s params : Scope) (d : Param) (m : Meaning) → Stands params d.name m → (b : Bool) → Decides b (Contains names d.name.text) → ParamFaults names s params d (broken.Twice d.name.at)
either_taken names s params d m t true decides = inl (decides.0 refl, refl)
either_taken names s params d m t false decides = inr (not_from_Decides false decides refl, inl (m, t, refl))

param_blames : (names : List (List ℕ)) (s params : Scope) (n : ℕ) (d : Param) (f : CheckErr) → BreaksParam names s params n d f → ParamFaults names s params d f
param_blames names s params n _ _ (breaks.name_of_script d i) = inl (i, refl)
param_blames names s params n _ _ (breaks.param_taken d m t) = either_taken names s params d m t (list_any (same_word d.name.text) names) (named_decides names d.name.text)
param_blames names s params n _ _ (breaks.in_param_kind d f new t b) = inr (new, inr (t, b))

pub param_agrees : (names : List (List ℕ)) (s : Scope) → Plans (IsParamDecl names s) (BreaksParam names s) (param_decl names s)
param_agrees names s params n d =
    in_words (unnamed_agrees names d.name (free_agrees params d.name (then_made (param_planned params n d) (kind_agrees s d.kind))))
    (param_joined names s params n d) (λ p. param_parted names s params n d p.plan p.scope) (param_blamed names s params n d) (param_blames names s params n d)

-- Tests.
condition_kinded : (at : ℕ) (t : Typed) → IsKinded (λ (c : CondPlan). t ≡ Truth c) at (condition at t)
condition_kinded at (Truth c) = of_kind at c refl (λ b i. cc)
condition_kinded at _ = of_no_kind at (λ a i. cc)

pub means_condition : (s : Scope) (e : ExprTree) (c : CondPlan) → Means s e (Truth c) → IsCondition s e c
means_condition s _ _ (truth e c i) = i

abbrev test_planned : Scope → ℕ → TestTree → Planned (List KindPlan) → CondPlan → Planned TestOf
test_planned s n d params c = record {
  plan = record { params = params.plan; body = c };
  scope = s ++ entry d.name (meaning.Test n params.plan) ∷ [];
}

abbrev HaveParams : List (List ℕ) → Scope → TestTree → Planned (List KindPlan) → Type 0
HaveParams names s d p = Each (IsParamDecl names (unfinished s d.name)) [] 0 d.params p.plan p.scope

abbrev IsTestWith : List (List ℕ) → Scope → ℕ → TestTree → Planned TestOf → Type 0
IsTestWith names s n d p = IsFree s d.name × ((ks : Planned (List KindPlan)) × HaveParams names s d ks × ((t : Typed) × Means (in_tests s ++ ks.scope) d.body t × ((c : CondPlan) × (t ≡ Truth c) × (test_planned s n d ks c ≡ p))))

test_joined : (names : List (List ℕ)) (s : Scope) (n : ℕ) (d : TestTree) (p : Planned TestOf) → IsTestWith names s n d p → IsTestDecl names s n d p.plan p.scope
test_joined names s n d p (free, (ks, are, (t, m, (c, i, e)))) =
    let body : IsCondition (in_tests s ++ ks.scope) d.body c = means_condition (in_tests s ++ ks.scope) d.body c (subst (Means (in_tests s ++ ks.scope) d.body) i m) in
    subst (λ (q : Planned TestOf). IsTestDecl names s n d q.plan q.scope) e (is.test s ks.scope n d ks.plan c free are body)

test_parted : (names : List (List ℕ)) (s : Scope) (n : ℕ) (d : TestTree) (p : TestOf) (later : Scope) → IsTestDecl names s n d p later → IsTestWith names s n d (record { plan = p; scope = later })
test_parted names _ _ _ _ _ (is.test s params n d ks c free are i) = (free, (record { plan = ks; scope = params }, are, (Truth c, truth d.body c i, (c, refl, refl))))

abbrev BodyFaults : Scope → ExprTree → CheckErr → Type 0
BodyFaults s e f = Breaks s e f ⊎ ((t : Typed) × Means s e t × (((c : CondPlan) → t ≡ Truth c → ⊥) × (broken.Kind (place e) ≡ f)))

abbrev TestFaults : List (List ℕ) → Scope → TestTree → CheckErr → Type 0
TestFaults names s d f =
    TakenOr s d.name
    (λ f. FirstBroken (IsParamDecl names (unfinished s d.name)) (BreaksParam names (unfinished s d.name)) [] 0 d.params f
    ⊎ ((ks : Planned (List KindPlan)) × HaveParams names s d ks × BodyFaults (in_tests s ++ ks.scope) d.body f))
    f

test_blames : (names : List (List ℕ)) (s : Scope) (n : ℕ) (d : TestTree) (f : CheckErr) → BreaksTest names s n d f → TestFaults names s d f
test_blames names s n _ _ (breaks.test_taken d m t) = inl (m, t, refl)
test_blames names s n _ _ (breaks.in_params d f t b) = inr (t, inl b)
test_blames names s n _ _ (breaks.in_body d ks params f t are b) = inr (t, inr (record { plan = ks; scope = params }, are, inl b))
test_blames names s n _ _ (breaks.no_condition d ks params u t are m none) = inr (t, inr (record { plan = ks; scope = params }, are, inr (u, m, ((λ c i. none c (means_condition _ _ c (subst (Means (in_tests s ++ params) d.body) i m))), refl))))

one_meaning : (s : Scope) (e : ExprTree) (t : Typed) (c : CondPlan) → Means s e t → IsCondition s e c → t ≡ Truth c
one_meaning s e t c m i =
    let p : infer s e ≡ Ok t = (infer_agrees s e).complete t m in
    let q : infer s e ≡ Ok (Truth c) = (infer_agrees s e).complete (Truth c) (truth e c i) in
    cc (p, q)

test_blamed : (names : List (List ℕ)) (s : Scope) (n : ℕ) (d : TestTree) (f : CheckErr) → TestFaults names s d f → BreaksTest names s n d f
test_blamed names s n d f (inl (m, t, e)) = subst (BreaksTest names s n d) e (breaks.test_taken d m t)
test_blamed names s n d f (inr (t, inl b)) = breaks.in_params d f t b
test_blamed names s n d f (inr (t, inr (ks, are, inl b))) = breaks.in_body d ks.plan ks.scope f t are b
test_blamed names s n d f (inr (t, inr (ks, are, inr (u, m, (none, e))))) = subst (BreaksTest names s n d) e (breaks.no_condition d ks.plan ks.scope u t are m (λ c i. none c (one_meaning (in_tests s ++ ks.scope) d.body u c m i)))

pub test_agrees : (names : List (List ℕ)) → Plans (IsTestDecl names) (BreaksTest names) (test_decl names)
test_agrees names s n d =
    in_words (free_agrees s d.name
    (then_agrees (each_agrees (IsParamDecl names (unfinished s d.name)) (BreaksParam names (unfinished s d.name)) (param_decl names (unfinished s d.name)) (param_agrees names (unfinished s d.name)) [] 0 d.params)
    (λ ks are. then_agrees (infer_agrees (in_tests s ++ ks.scope) d.body)
    (λ t m. then_made (test_planned s n d ks) (condition_kinded (place d.body) t)))))
    (test_joined names s n d) (λ p. test_parted names s n d p.plan p.scope) (test_blamed names s n d) (test_blames names s n d)
