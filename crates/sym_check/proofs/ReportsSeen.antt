-- What report expressions come to, in the words of the rules.
use Rattle.std.proofs.Common.{◌≡◌, refl, ℕ, ℤ}
use Rattle.sym_base.specs.declared.tree.name.Name.{Name}
use Rattle.sym_base.specs.Trees.{ExprTree, Num, Named}
use Rattle.sym_check.specs.declared.plan.script.KindPlan.{KindPlan}
use Rattle.sym_check.specs.declared.plan.script.KindPlan.TheVariants as kind
use Rattle.sym_check.specs.declared.plan.show.ShowFn.{ShowFn}
use Rattle.sym_check.specs.declared.plan.show.ShowFn.TheVariants as show_fn
use Rattle.sym_check.specs.Meaning.Columns.{ShownAs, as_number, as_word, as_list, shown_kind, word_list_shows}
use Rattle.sym_check.specs.Plan.ShowPlans.{ShowPlan}
use Rattle.sym_check.specs.Plan.ShowPlans as show
use Rattle.sym_check.specs.declared.elaborate.scope.Meaning.TheVariants as meaning
use Rattle.sym_check.specs.Rules.Scopes.{Scope, Stands}
use Rattle.sym_check.specs.Rules.Reports.{list_function, is_part, IsShown}
use Rattle.sym_check.specs.Rules.Reports as is
use Rattle.sym_check.specs.Elaborate.Reports.{Seen, Numeral, Number, Word, NumList, WordList, Parts}

-- An expression comes to this.
abbrev pub Sees : Scope → ExprTree → Seen → Type 0
Sees s e (Numeral n at) = e ≡ Num n at
Sees s e (Number p) = IsShown s e as_number p × ((n : ℤ) (at : ℕ) → e ≡ Num n at → ⊥)
Sees s e (Word p) = IsShown s e as_word p
Sees s e (NumList c) = (x : Name) × (e ≡ Named x) × Stands s x (meaning.NumsCell c)
Sees s e (WordList c) = (x : Name) × (e ≡ Named x) × Stands s x (meaning.WordsCell c)
Sees s e (Parts c ks) = (x : Name) × (e ≡ Named x) × Stands s x (meaning.HoldCell c ks)

-- And what it comes to gives this in a column.
pub data Gives : Seen → ShownAs → ShowPlan → Type 0 where
  a_numeral : (n : ℤ) (at : ℕ) → Gives (Numeral n at) as_number (show.Num n)
  a_number : (p : ShowPlan) → Gives (Number p) as_number p
  a_word : (p : ShowPlan) → Gives (Word p) as_word p
  num_list : (c : ℕ) → Gives (NumList c) as_list (show.Cell c)
  word_list : (c : ℕ) → Gives (WordList c) as_list (show.Cell c)

pub seen_shown : (s : Scope) (e : ExprTree) (v : Seen) (g : ShownAs) (p : ShowPlan) → Sees s e v → Gives v g p → IsShown s e g p
seen_shown s e _ _ _ i (a_numeral n at) = rw i (is.numeral n at)
seen_shown s e _ _ _ i (a_number p) = i.0
seen_shown s e _ _ _ i (a_word p) = i
seen_shown s e _ _ _ i (num_list c) = rw i.1 (is.nums_cell i.0 c i.2)
seen_shown s e _ _ _ i (word_list c) = rw i.1 (is.words_cell i.0 c i.2)

-- What gives this.
abbrev pub Shows : Scope → ExprTree → ShownAs → ShowPlan → Type 0
Shows s e g p = (v : Seen) × Sees s e v × Gives v g p

part_shows : (s : Scope) (e : ExprTree) (p : ShowPlan) (of : KindPlan) → ((n : ℤ) (at : ℕ) → e ≡ Num n at → ⊥) → IsShown s e (shown_kind of) p → Shows s e (shown_kind of) p
part_shows s e p kind.Num none i = (Number p, (i, none), a_number p)
part_shows s e p kind.Word none i = (Word p, i, a_word p)
part_shows s e p (kind.Label enum) none i = (Word p, i, a_word p)

words_show : (s : Scope) (e : ExprTree) (p : ShowPlan) (f : ShowFn) → ((n : ℤ) (at : ℕ) → e ≡ Num n at → ⊥) → IsShown s e (word_list_shows f) p → Shows s e (word_list_shows f) p
words_show s e p show_fn.Count none i = (Number p, (i, none), a_number p)
words_show s e p show_fn.Sum none i = (Number p, (i, none), a_number p)
words_show s e p show_fn.Min none i = (Number p, (i, none), a_number p)
words_show s e p show_fn.Max none i = (Number p, (i, none), a_number p)
words_show s e p show_fn.First none i = (Word p, i, a_word p)
words_show s e p show_fn.Last none i = (Word p, i, a_word p)

pub shown_seen : (s : Scope) (e : ExprTree) (g : ShownAs) (p : ShowPlan) → IsShown s e g p → Shows s e g p
shown_seen s _ _ _ (is.numeral n at) = (Numeral n at, refl, a_numeral n at)
shown_seen s _ _ _ (is.text t at) = (Word (show.Text t), is.text t at, a_word (show.Text t))
shown_seen s _ _ _ (is.int_cell x c t) = (Number (show.Cell c), (is.int_cell x c t, λ n at e. cc), a_number (show.Cell c))
shown_seen s _ _ _ (is.enum_cell x c enum t) = (Word (show.Cell c), is.enum_cell x c enum t, a_word (show.Cell c))
shown_seen s _ _ _ (is.nums_cell x c t) = (NumList c, (x, refl, t), num_list c)
shown_seen s _ _ _ (is.words_cell x c t) = (WordList c, (x, refl, t), word_list c)
shown_seen s _ _ _ (is.part f h c k at ks of a b d e) = part_shows s _ _ of (λ n place i. cc) (is.part f h c k at ks of a b d e)
shown_seen s _ _ _ (is.of_nums f x g c a b) = (Number (show.Call g c), (is.of_nums f x g c a b, λ n at e. cc), a_number (show.Call g c))
shown_seen s _ _ _ (is.of_words f x g c a b d) = words_show s _ _ g (λ n at e. cc) (is.of_words f x g c a b d)
shown_seen s _ _ _ (is.negative e at p i) = (Number (show.Neg p), (is.negative e at p i, λ n place j. cc), a_number (show.Neg p))
shown_seen s _ _ _ (is.calculated o a l r at p q e i j) = (Number (show.Bin a p q), (is.calculated o a l r at p q e i j, λ n place k. cc), a_number (show.Bin a p q))
