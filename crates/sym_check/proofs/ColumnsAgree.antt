-- Columns agree with what is so of them and with their first broken rule.
use Rattle.std.proofs.Common.{◌≡◌, refl, subst, ℕ, Bool, true, false, if◌then◌else◌, ◌⊎◌, inl, inr, List, [], ◌∷◌, ◌++◌, Some}
use Rattle.sym_base.specs.declared.tree.name.Name.{Name}
use Rattle.sym_base.specs.Trees.{ColumnTree, ExprTree, Named}
use Rattle.sym_check.specs.declared.plan.script.KindPlan.{KindPlan}
use Rattle.sym_check.specs.Meaning.Columns.{ShownAs, as_number, as_word, as_list}
use Rattle.sym_check.specs.Meaning.Conditions.{same_word}
use Rattle.sym_check.specs.Plan.ShowPlans.{ShowPlan}
use Rattle.sym_check.specs.Plan.ShowPlans as show
use Rattle.sym_check.specs.Plan.ScriptPlans.{ColumnOf}
use Rattle.sym_check.specs.declared.elaborate.error.CheckErr.{CheckErr}
use Rattle.sym_check.specs.declared.elaborate.error.CheckErr.TheVariants as broken
use Rattle.sym_check.specs.declared.elaborate.scope.View.{View}
use Rattle.sym_check.specs.declared.elaborate.scope.View.TheVariants as view
use Rattle.sym_check.specs.declared.elaborate.scope.Meaning.{Meaning}
use Rattle.sym_check.specs.declared.elaborate.scope.Meaning.TheVariants as meaning
use Rattle.sym_check.specs.Rules.Scopes.{Scope, entry, find, Stands, IsFree, shows, visible, in_report}
use Rattle.sym_check.specs.Breaks.Expressions.{place}
use Rattle.sym_check.specs.Rules.InOrder.{Planned}
use Rattle.sym_check.specs.Rules.Reports.{IsShown, IsColumnDecl}
use Rattle.sym_check.specs.Rules.Reports as is
use Rattle.sym_check.specs.Breaks.Reports.{BreaksShown, BreaksColumn}
use Rattle.sym_check.specs.Breaks.Reports as breaks
use Rattle.sym_check.specs.Elaborate.Reports.{Seen, Numeral, Number, Word, NumList, WordList, Parts, shown, column_decl}
use Rattle.sym_check.proofs.Agreements.{in_words, then_agrees, then_made, IsKinded, of_kind, of_no_kind, free_agrees}
use Rattle.sym_check.proofs.ListsAgree.{Plans}
use Rattle.sym_check.proofs.StatesAgree.{TakenOr}
use Rattle.sym_check.proofs.ReportsSeen.{Sees, Gives, a_numeral, a_number, a_word, num_list, word_list, seen_shown, shown_seen}
use Rattle.sym_check.proofs.ReportsAgree.{HasCellsAlone}
use Rattle.sym_check.proofs.ReportCallsAgree.{sights}

-- What is seen through a view is in it.
seen_shows : (v : View) (s : Scope) (text : List ℕ) (m : Meaning) → find (visible v s) text ≡ Some m → shows v m ≡ true
seen_shows v [] text m e = absurd (cc)
seen_shows v (x ∷ rest) text m e = go (λ i. seen_shows v rest text m i) (shows v x.meaning) refl e
  where
    Later : Type 0
    Later = find (visible v rest) text ≡ Some m → shows v m ≡ true

    here : Later → (b : Bool) → shows v x.meaning ≡ true → (if b then Some x.meaning else find (visible v rest) text) ≡ Some m → shows v m ≡ true
    here later true i j = let same : x.meaning ≡ m = cc in subst (λ n. shows v n ≡ true) same i
    here later false i j = later j

    go : Later → (b : Bool) → shows v x.meaning ≡ b → find (if b then x ∷ visible v rest else visible v rest) text ≡ Some m → shows v m ≡ true
    go later true i j = here later (same_word x.name text) i j
    go later false i j = later j

report_cells : (s : Scope) → HasCellsAlone (in_report s)
report_cells s x m t = seen_shows view.Report s x.text m t.found

-- A column's whole value.
abbrev Whole : Seen → ShowPlan → Type 0
Whole (Numeral n at) p = show.Num n ≡ p
Whole (Number q) p = q ≡ p
Whole (Word q) p = q ≡ p
Whole (NumList c) p = show.Cell c ≡ p
Whole (WordList c) p = show.Cell c ≡ p
Whole (Parts c ks) p = ⊥

whole_kinded : (at : ℕ) (v : Seen) → IsKinded (Whole v) at (shown at v)
whole_kinded at (Numeral n place) = of_kind at (show.Num n) refl (λ b i. i)
whole_kinded at (Number p) = of_kind at p refl (λ b i. i)
whole_kinded at (Word p) = of_kind at p refl (λ b i. i)
whole_kinded at (NumList c) = of_kind at (show.Cell c) refl (λ b i. i)
whole_kinded at (WordList c) = of_kind at (show.Cell c) refl (λ b i. i)
whole_kinded at (Parts c ks) = of_no_kind at (λ a i. i)

whole_gives : (v : Seen) (p : ShowPlan) → Whole v p → (g : ShownAs) × Gives v g p
whole_gives (Numeral n at) p e = (as_number, subst (Gives (Numeral n at) as_number) e (a_numeral n at))
whole_gives (Number q) p e = (as_number, subst (Gives (Number q) as_number) e (a_number q))
whole_gives (Word q) p e = (as_word, subst (Gives (Word q) as_word) e (a_word q))
whole_gives (NumList c) p e = (as_list, subst (Gives (NumList c) as_list) e (num_list c))
whole_gives (WordList c) p e = (as_list, subst (Gives (WordList c) as_list) e (word_list c))
whole_gives (Parts c ks) p e = absurd e

gives_whole : (v : Seen) (g : ShownAs) (p : ShowPlan) → Gives v g p → Whole v p
gives_whole _ _ _ (a_numeral n at) = refl
gives_whole _ _ _ (a_number p) = refl
gives_whole _ _ _ (a_word p) = refl
gives_whole _ _ _ (num_list c) = refl
gives_whole _ _ _ (word_list c) = refl

-- What has no whole value is a hold cell.
no_whole : (s : Scope) (e : ExprTree) (v : Seen) → Sees s e v → ((p : ShowPlan) → Whole v p → ⊥) → (x : Name) × (c : ℕ) × (ks : List KindPlan) × (e ≡ Named x) × Stands s x (meaning.HoldCell c ks)
no_whole s e (Numeral n at) i none = absurd (none (show.Num n) refl)
no_whole s e (Number p) i none = absurd (none p refl)
no_whole s e (Word p) i none = absurd (none p refl)
no_whole s e (NumList c) i none = absurd (none (show.Cell c) refl)
no_whole s e (WordList c) i none = absurd (none (show.Cell c) refl)
no_whole s e (Parts c ks) i none = (i.0, c, ks, i.1, i.2)

abbrev column_planned : Scope → ColumnTree → ShowPlan → Planned ColumnOf
column_planned columns d p = record {
  plan = record { name = d.name.text; value = p };
  scope = columns ++ entry d.name meaning.Unfinished ∷ [];
}

abbrev IsColumnOf : Scope → Scope → ColumnTree → Planned ColumnOf → Type 0
IsColumnOf s columns d q = IsFree columns d.name × ((v : Seen) × Sees s d.value v × ((p : ShowPlan) × Whole v p × (column_planned columns d p ≡ q)))

column_joined : (s columns : Scope) (n : ℕ) (d : ColumnTree) (q : Planned ColumnOf) → IsColumnOf s columns d q → IsColumnDecl s columns n d q.plan q.scope
column_joined s columns n d q (t, (v, i, (p, j, e))) =
    let (g, k) = whole_gives v p j in
    subst (λ (o : Planned ColumnOf). IsColumnDecl s columns n d o.plan o.scope) e (is.column columns n d g p t (seen_shown s d.value v g p i k))

column_parted : (s columns : Scope) (n : ℕ) (d : ColumnTree) (p : ColumnOf) (later : Scope) → IsColumnDecl s columns n d p later → IsColumnOf s columns d (record { plan = p; scope = later })
column_parted s _ _ _ _ _ (is.column columns n d g p t i) = let v = shown_seen s d.value g p i in (t, (v.0, v.1, (p, gives_whole v.0 g p v.2, refl)))

abbrev ColumnFaults : Scope → Scope → ColumnTree → CheckErr → Type 0
ColumnFaults s columns d f = TakenOr columns d.name (λ f. BreaksShown s d.value f ⊎ ((v : Seen) × Sees s d.value v × (((p : ShowPlan) → Whole v p → ⊥) × (broken.Kind (place d.value) ≡ f)))) f

column_blamed : (s columns : Scope) (n : ℕ) (d : ColumnTree) (f : CheckErr) → ColumnFaults s columns d f → BreaksColumn s columns n d f
column_blamed s columns n d f (inl (m, t, e)) = subst (BreaksColumn s columns n d) e (breaks.column_taken d m t)
column_blamed s columns n d f (inr (t, inl b)) = breaks.in_value d f t b
column_blamed s columns n d f (inr (t, inr (v, i, (none, e)))) =
    let (x, c, ks, j, k) = no_whole s d.value v i none in
    let same : broken.Kind x.at ≡ f = cc (e, j) in
    subst (BreaksColumn s columns n d) same (breaks.whole_cell d x c ks t j k)

column_blames : (s columns : Scope) (n : ℕ) (d : ColumnTree) (f : CheckErr) → BreaksColumn s columns n d f → ColumnFaults s columns d f
column_blames s columns n _ _ (breaks.column_taken d m t) = inl (m, t, refl)
column_blames s columns n _ _ (breaks.in_value d f t b) = inr (t, inl b)
column_blames s columns n _ _ (breaks.whole_cell d x c ks t e u) = inr (t, inr (Parts c ks, (x, e, u), ((λ p i. i), rw e refl)))

-- In the scope of a report.
pub column_agrees : (s : Scope) → Plans (IsColumnDecl (in_report s)) (BreaksColumn (in_report s)) (column_decl (in_report s))
column_agrees s columns n d =
    in_words (free_agrees columns d.name (then_agrees (sights (in_report s) (report_cells s) d.value) (λ v i. then_made (column_planned columns d) (whole_kinded (place d.value) v))))
    (column_joined (in_report s) columns n d) (λ q. column_parted (in_report s) columns n d q.plan q.scope) (column_blamed (in_report s) columns n d) (column_blames (in_report s) columns n d)
