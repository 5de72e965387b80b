-- The declarations of enums, fields and states agree with what is so of them and with their first
-- broken rule.
use Rattle.std.proofs.lemmas.Int.{ints}
use Rattle.std.proofs.Common.{arith, Bool, true, ◌≡◌, refl, subst, ℕ, ℤ, ◌≤ℤ◌, ◌&&◌, ◌⊎◌, inl, inr, ◌++◌, List, [], ◌∷◌, Option}
use Rattle.std.specs.Prelude.{int_le}
use Rattle.std.specs.Option.{unwrap_or}
use Rattle.std.specs.Bool.{Decides}
use Rattle.std.proofs.lemmas.Bool.Decides.{Decides-and}
use Rattle.sym_base.specs.declared.tree.name.Name.{Name}
use Rattle.sym_base.specs.declared.tree.declaration.EnumDecl.{EnumDecl}
use Rattle.sym_base.specs.declared.tree.declaration.FieldDecl.{FieldDecl}
use Rattle.sym_base.specs.declared.tree.declaration.Part.{Part}
use Rattle.sym_base.specs.declared.tree.declaration.CellDecl.{CellDecl}
use Rattle.sym_base.specs.declared.tree.declaration.CellDecl.TheVariants as cell
use Rattle.sym_base.specs.declared.tree.declaration.StateDecl.{StateDecl}
use Rattle.sym_base.specs.declared.values.value.Value.{Value}
use Rattle.sym_check.specs.declared.plan.script.EnumPlan.{EnumPlan}
use Rattle.sym_check.specs.declared.plan.script.FieldPlan.{FieldPlan}
use Rattle.sym_check.specs.declared.plan.script.KindPlan.{KindPlan}
use Rattle.sym_check.specs.declared.plan.script.CellPlan.{CellPlan}
use Rattle.sym_check.specs.declared.plan.script.CellPlan.TheVariants as plan
use Rattle.sym_check.specs.declared.elaborate.error.CheckErr.{CheckErr}
use Rattle.sym_check.specs.declared.elaborate.error.CheckErr.TheVariants as broken
use Rattle.sym_check.specs.declared.elaborate.scope.Variable.TheVariants as var
use Rattle.sym_check.specs.declared.elaborate.scope.Meaning.{Meaning}
use Rattle.sym_check.specs.declared.elaborate.scope.Meaning.TheVariants as meaning
use Rattle.sym_check.specs.Rules.Scopes.{Scope, entry, Stands, IsFree}
use Rattle.sym_check.specs.Rules.InOrder.{Each, FirstBroken, Planned}
use Rattle.sym_check.specs.Plan.Ranges.{InRange}
use Rattle.sym_check.specs.Rules.Declarations.{unfinished, IsKindOf, IsLiteral, IsDefault, IsLabelDecl, IsEnumDecl, IsFieldDecl, AreParts, IsCellDecl, IsStateDecl}
use Rattle.sym_check.specs.Rules.Declarations as is
use Rattle.sym_check.specs.Breaks.Declarations.{BreaksKind, BreaksLiteral, BreaksLabel, BreaksEnum, BreaksField, BreaksParts, BreaksCell, BreaksState}
use Rattle.sym_check.specs.Breaks.Declarations as breaks
use Rattle.sym_check.specs.Elaborate.Declarations.{enum_named, label_named, label_decl, enum_decl, field_decl, PlannedParts, parts_of, PlannedCell, cell_of, state_decl}
use Rattle.sym_check.proofs.Agreements.{Agrees, in_words, only_value, only_fault, then_agrees, then_made, where_true, free_agrees, ok_agrees, named_agrees}
use Rattle.sym_check.proofs.ListsAgree.{Plans, each_agrees}
use Rattle.sym_check.proofs.DeclarationsAgree.{kind_agrees, literal_agrees, BreaksDefault, default_agrees, enum_kinded, label_kinded, Unmeant, no_enum, enum_not, other_label, label_not}

-- A name that is taken, or free and then a later fault.
abbrev pub TakenOr : Scope → Name → (CheckErr → Type 0) → CheckErr → Type 0
TakenOr s x Later f = ((m : Meaning) × Stands s x m × (broken.Twice x.at ≡ f)) ⊎ (IsFree s x × Later f)

-- Labels.
abbrev after_label : ℕ → Scope → ℕ → Name → Planned (List ℕ)
after_label enum s n x = record { plan = x.text; scope = s ++ entry x (meaning.Label enum n) ∷ [] }

label_joined : (enum : ℕ) (s : Scope) (n : ℕ) (x : Name) (p : Planned (List ℕ)) → IsFree s x × (after_label enum s n x ≡ p) → IsLabelDecl enum s n x p.plan p.scope
label_joined enum s n x p (t, e) = subst (λ (q : Planned (List ℕ)). IsLabelDecl enum s n x q.plan q.scope) e (is.label s n x t)

label_parted : (enum : ℕ) (s : Scope) (n : ℕ) (x : Name) (l : List ℕ) (later : Scope) → IsLabelDecl enum s n x l later → IsFree s x × (after_label enum s n x ≡ record { plan = l; scope = later })
label_parted enum _ _ _ _ _ (is.label s n x t) = (t, refl)

label_blamed : (s : Scope) (n : ℕ) (x : Name) (f : CheckErr) → TakenOr s x (λ g. ⊥) f → BreaksLabel s n x f
label_blamed s n x f (inl (m, t, e)) = subst (BreaksLabel s n x) e (breaks.label_taken x m t)
label_blamed s n x f (inr (t, e)) = absurd e

label_blames : (s : Scope) (n : ℕ) (x : Name) (f : CheckErr) → BreaksLabel s n x f → TakenOr s x (λ g. ⊥) f
label_blames s n _ _ (breaks.label_taken x m t) = inl (m, t, refl)

label_agrees : (enum : ℕ) → Plans (IsLabelDecl enum) BreaksLabel (label_decl enum)
label_agrees enum s n x = in_words (free_agrees s x (ok_agrees (after_label enum s n x))) (label_joined enum s n x) (λ p. label_parted enum s n x p.plan p.scope) (label_blamed s n x) (label_blames s n x)

-- Enums.
abbrev enum_planned : Planned (List (List ℕ)) → Planned EnumPlan
enum_planned labels = record { plan = record { labels = labels.plan }; scope = labels.scope }

abbrev Labelled : Scope → ℕ → EnumDecl → Planned (List (List ℕ)) → Type 0
Labelled s n d p = Each (IsLabelDecl n) (s ++ entry d.name (meaning.Enum n) ∷ []) 0 d.labels p.plan p.scope

enum_joined : (s : Scope) (n : ℕ) (d : EnumDecl) (p : Planned EnumPlan) → IsFree s d.name × ((labels : Planned (List (List ℕ))) × Labelled s n d labels × (enum_planned labels ≡ p)) → IsEnumDecl s n d p.plan p.scope
enum_joined s n d p (t, (labels, are, e)) = subst (λ (q : Planned EnumPlan). IsEnumDecl s n d q.plan q.scope) e (is.enum s labels.scope n d labels.plan t are)

enum_parted : (s : Scope) (n : ℕ) (d : EnumDecl) (p : EnumPlan) (later : Scope) → IsEnumDecl s n d p later → IsFree s d.name × ((labels : Planned (List (List ℕ))) × Labelled s n d labels × (enum_planned labels ≡ record { plan = p; scope = later }))
enum_parted _ _ _ _ _ (is.enum s later n d labels t are) = (t, (record { plan = labels; scope = later }, are, refl))

abbrev BreaksLabels : Scope → ℕ → EnumDecl → CheckErr → Type 0
BreaksLabels s n d f = FirstBroken (IsLabelDecl n) BreaksLabel (s ++ entry d.name (meaning.Enum n) ∷ []) 0 d.labels f

enum_blamed : (s : Scope) (n : ℕ) (d : EnumDecl) (f : CheckErr) → TakenOr s d.name (BreaksLabels s n d) f → BreaksEnum s n d f
enum_blamed s n d f (inl (m, t, e)) = subst (BreaksEnum s n d) e (breaks.enum_taken d m t)
enum_blamed s n d f (inr (t, b)) = breaks.in_labels d f t b

enum_blames : (s : Scope) (n : ℕ) (d : EnumDecl) (f : CheckErr) → BreaksEnum s n d f → TakenOr s d.name (BreaksLabels s n d) f
enum_blames s n _ _ (breaks.enum_taken d m t) = inl (m, t, refl)
enum_blames s n _ _ (breaks.in_labels d f t b) = inr (t, b)

pub enum_agrees : Plans IsEnumDecl BreaksEnum enum_decl
enum_agrees s n d =
    in_words (free_agrees s d.name (then_made enum_planned (each_agrees (IsLabelDecl n) BreaksLabel (label_decl n) (label_agrees n) (s ++ entry d.name (meaning.Enum n) ∷ []) 0 d.labels)))
    (enum_joined s n d) (λ p. enum_parted s n d p.plan p.scope) (enum_blamed s n d) (enum_blames s n d)

-- Fields.
abbrev field_planned : Scope → ℕ → FieldDecl → KindPlan → Option Value → Planned FieldPlan
field_planned s n d k empty = record {
  plan = record { header = unwrap_or d.header d.name.text; kind = k; default = empty };
  scope = s ++ entry d.name (meaning.Value k (var.Field n)) ∷ [];
}

abbrev IsFieldOf : Scope → ℕ → FieldDecl → Planned FieldPlan → Type 0
IsFieldOf s n d p = IsFree s d.name × ((k : KindPlan) × IsKindOf (unfinished s d.name) d.kind k × ((empty : Option Value) × IsDefault (unfinished s d.name) k d.default empty × (field_planned s n d k empty ≡ p)))

field_joined : (s : Scope) (n : ℕ) (d : FieldDecl) (p : Planned FieldPlan) → IsFieldOf s n d p → IsFieldDecl s n d p.plan p.scope
field_joined s n d p (t, (k, i, (empty, j, e))) = subst (λ (q : Planned FieldPlan). IsFieldDecl s n d q.plan q.scope) e (is.field s n d k empty t i j)

field_parted : (s : Scope) (n : ℕ) (d : FieldDecl) (p : FieldPlan) (later : Scope) → IsFieldDecl s n d p later → IsFieldOf s n d (record { plan = p; scope = later })
field_parted _ _ _ _ _ (is.field s n d k empty t i j) = (t, (k, i, (empty, j, refl)))

abbrev FieldFaults : Scope → FieldDecl → CheckErr → Type 0
FieldFaults s d f = TakenOr s d.name (λ f. BreaksKind (unfinished s d.name) d.kind f ⊎ ((k : KindPlan) × IsKindOf (unfinished s d.name) d.kind k × BreaksDefault (unfinished s d.name) k d.default f)) f

field_blamed : (s : Scope) (n : ℕ) (d : FieldDecl) (f : CheckErr) → FieldFaults s d f → BreaksField s n d f
field_blamed s n d f (inl (m, t, e)) = subst (BreaksField s n d) e (breaks.field_taken d m t)
field_blamed s n d f (inr (t, inl b)) = breaks.in_field_kind d f t b
field_blamed s n d f (inr (t, inr (k, i, (l, e, b)))) = breaks.in_default d k l f t i e b

field_blames : (s : Scope) (n : ℕ) (d : FieldDecl) (f : CheckErr) → BreaksField s n d f → FieldFaults s d f
field_blames s n _ _ (breaks.field_taken d m t) = inl (m, t, refl)
field_blames s n _ _ (breaks.in_field_kind d f t b) = inr (t, inl b)
field_blames s n _ _ (breaks.in_default d k l f t i e b) = inr (t, inr (k, i, (l, e, b)))

pub field_agrees : Plans IsFieldDecl BreaksField field_decl
field_agrees s n d =
    in_words (free_agrees s d.name (then_agrees (kind_agrees (unfinished s d.name) d.kind) (λ k i. then_made (field_planned s n d k) (default_agrees (unfinished s d.name) k d.default))))
    (field_joined s n d) (λ p. field_parted s n d p.plan p.scope) (field_blamed s n d) (field_blames s n d)

-- Parts of hold cells.
abbrev one_part : KindPlan → Value → PlannedParts → PlannedParts
one_part k v parts = record { kinds = k ∷ parts.kinds; firsts = v ∷ parts.firsts }

abbrev ArePartsOf : Scope → Part → List Part → PlannedParts → Type 0
ArePartsOf s d rest p = (k : KindPlan) × IsKindOf s d.kind k × ((v : Value) × IsLiteral s k d.first v × ((parts : PlannedParts) × AreParts s rest parts.kinds parts.firsts × (one_part k v parts ≡ p)))

parts_joined : (s : Scope) (d : Part) (rest : List Part) (p : PlannedParts) → ArePartsOf s d rest p → AreParts s (d ∷ rest) p.kinds p.firsts
parts_joined s d rest p (k, i, (v, j, (parts, are, e))) = subst (λ (q : PlannedParts). AreParts s (d ∷ rest) q.kinds q.firsts) e (is.more_parts d rest k parts.kinds v parts.firsts i j are)

parts_parted : (s : Scope) (d : Part) (rest : List Part) (ks : List KindPlan) (vs : List Value) → AreParts s (d ∷ rest) ks vs → ArePartsOf s d rest (record { kinds = ks; firsts = vs })
parts_parted s _ _ _ _ (is.more_parts d rest k ks v vs i j are) = (k, i, (v, j, (record { kinds = ks; firsts = vs }, are, refl)))

abbrev PartsFaults : Scope → Part → List Part → CheckErr → Type 0
PartsFaults s d rest f = BreaksKind s d.kind f ⊎ ((k : KindPlan) × IsKindOf s d.kind k × (BreaksLiteral s k d.first f ⊎ ((v : Value) × IsLiteral s k d.first v × BreaksParts s rest f)))

parts_blamed : (s : Scope) (d : Part) (rest : List Part) (f : CheckErr) → PartsFaults s d rest f → BreaksParts s (d ∷ rest) f
parts_blamed s d rest f (inl b) = breaks.in_part_kind d rest f b
parts_blamed s d rest f (inr (k, i, inl b)) = breaks.in_part_literal d rest k f i b
parts_blamed s d rest f (inr (k, i, inr (v, j, b))) = breaks.in_other_parts d rest k v f i j b

parts_blames : (s : Scope) (d : Part) (rest : List Part) (f : CheckErr) → BreaksParts s (d ∷ rest) f → PartsFaults s d rest f
parts_blames s _ _ _ (breaks.in_part_kind d rest f b) = inl b
parts_blames s _ _ _ (breaks.in_part_literal d rest k f i b) = inr (k, i, inl b)
parts_blames s _ _ _ (breaks.in_other_parts d rest k v f i j b) = inr (k, i, inr (v, j, b))

no_parts_alone : (s : Scope) (ks : List KindPlan) (vs : List Value) → AreParts s [] ks vs → ◌≡◌ {A = PlannedParts} (record { kinds = []; firsts = [] }) (record { kinds = ks; firsts = vs })
no_parts_alone s _ _ is.no_parts = refl

parts_agree : (s : Scope) (parts : List Part) → Agrees (λ (p : PlannedParts). AreParts s parts p.kinds p.firsts) (BreaksParts s parts) (parts_of s parts)
parts_agree s [] = only_value _ is.no_parts (λ p i. no_parts_alone s p.kinds p.firsts i) (λ f b. elim b [ ])
parts_agree s (d ∷ rest) =
    in_words (then_agrees (kind_agrees s d.kind) (λ k i. then_agrees (literal_agrees s k d.first) (λ v j. then_made (one_part k v) (parts_agree s rest))))
    (parts_joined s d rest) (λ p. parts_parted s d rest p.kinds p.firsts) (parts_blamed s d rest) (parts_blames s d rest)

-- Cells.
int_le_tells : (a b : ℤ) → int_le a b ≡ true → a ≤ℤ b
int_le_tells a b e = grind (arith, ints, e)

int_le_holds : (a b : ℤ) → a ≤ℤ b → int_le a b ≡ true
int_le_holds a b h = grind (arith, ints, h)

int_le_decides : (a b : ℤ) → Decides (int_le a b) (a ≤ℤ b)
int_le_decides a b = (int_le_tells a b, int_le_holds a b)

abbrev int_planned : ℕ → ℤ → ℤ → ℤ → Bool → PlannedCell
int_planned n lo hi first clamp = record { plan = plan.Int lo hi first clamp; meaning = meaning.IntCell n }

int_alone : (s : Scope) (n : ℕ) (lo hi first : ℤ) (clamp : Bool) (p : CellPlan) (m : Meaning) → IsCellDecl s n (cell.Int lo hi first clamp) p m → ◌≡◌ {A = PlannedCell} (int_planned n lo hi first clamp) (record { plan = p; meaning = m })
int_alone s n _ _ _ _ _ _ (is.int lo hi first clamp i) = refl

int_ranged : (s : Scope) (n : ℕ) (lo hi first : ℤ) (clamp : Bool) (p : CellPlan) (m : Meaning) → IsCellDecl s n (cell.Int lo hi first clamp) p m → InRange lo hi first
int_ranged s n _ _ _ _ _ _ (is.int lo hi first clamp i) = i

int_unranged : (s : Scope) (at : ℕ) (lo hi first : ℤ) (clamp : Bool) (f : CheckErr) → BreaksCell s at (cell.Int lo hi first clamp) f → (InRange lo hi first → ⊥) × (broken.Range at ≡ f)
int_unranged s at _ _ _ _ _ (breaks.no_int_range lo hi first clamp none) = (none, refl)

nums_alone : (s : Scope) (n : ℕ) (lo hi : ℤ) (clamp : Bool) (p : CellPlan) (m : Meaning) → IsCellDecl s n (cell.Nums lo hi clamp) p m → ◌≡◌ {A = PlannedCell} (record { plan = plan.Nums lo hi clamp; meaning = meaning.NumsCell n }) (record { plan = p; meaning = m })
nums_alone s n _ _ _ _ _ (is.nums lo hi clamp i) = refl

nums_ranged : (s : Scope) (n : ℕ) (lo hi : ℤ) (clamp : Bool) (p : CellPlan) (m : Meaning) → IsCellDecl s n (cell.Nums lo hi clamp) p m → lo ≤ℤ hi
nums_ranged s n _ _ _ _ _ (is.nums lo hi clamp i) = i

nums_unranged : (s : Scope) (at : ℕ) (lo hi : ℤ) (clamp : Bool) (f : CheckErr) → BreaksCell s at (cell.Nums lo hi clamp) f → (lo ≤ℤ hi → ⊥) × (broken.Range at ≡ f)
nums_unranged s at _ _ _ _ (breaks.no_nums_range lo hi clamp none) = (none, refl)

words_alone : (s : Scope) (n : ℕ) (p : CellPlan) (m : Meaning) → IsCellDecl s n cell.Words p m → ◌≡◌ {A = PlannedCell} (record { plan = plan.Words; meaning = meaning.WordsCell n }) (record { plan = p; meaning = m })
words_alone s n _ _ is.words = refl

abbrev hold_planned : ℕ → PlannedParts → PlannedCell
hold_planned n p = record { plan = plan.Hold p.kinds p.firsts; meaning = meaning.HoldCell n p.kinds }

hold_joined : (s : Scope) (n : ℕ) (parts : List Part) (p : PlannedCell) → (q : PlannedParts) × AreParts s parts q.kinds q.firsts × (hold_planned n q ≡ p) → IsCellDecl s n (cell.Hold parts) p.plan p.meaning
hold_joined s n parts p (q, are, e) = subst (λ (o : PlannedCell). IsCellDecl s n (cell.Hold parts) o.plan o.meaning) e (is.hold parts q.kinds q.firsts are)

hold_parted : (s : Scope) (n : ℕ) (parts : List Part) (p : CellPlan) (m : Meaning) → IsCellDecl s n (cell.Hold parts) p m → (q : PlannedParts) × AreParts s parts q.kinds q.firsts × (hold_planned n q ≡ record { plan = p; meaning = m })
hold_parted s n _ _ _ (is.hold parts ks vs are) = (record { kinds = ks; firsts = vs }, are, refl)

hold_blames : (s : Scope) (at : ℕ) (parts : List Part) (f : CheckErr) → BreaksCell s at (cell.Hold parts) f → BreaksParts s parts f
hold_blames s at _ _ (breaks.in_parts parts f b) = b

abbrev enum_cell_planned : ℕ → ℕ → ℕ → PlannedCell
enum_cell_planned n enum l = record { plan = plan.Enum enum l; meaning = meaning.EnumCell n enum }

abbrev Means : Scope → Name → Meaning → Type 0
Means s x wanted = (m : Meaning) × Stands s x m × (m ≡ wanted)

abbrev IsEnumCell : Scope → ℕ → Name → Name → PlannedCell → Type 0
IsEnumCell s n of first p = (enum : ℕ) × Means s of (meaning.Enum enum) × ((l : ℕ) × Means s first (meaning.Label enum l) × (enum_cell_planned n enum l ≡ p))

enum_cell_joined : (s : Scope) (n : ℕ) (of first : Name) (p : PlannedCell) → IsEnumCell s n of first p → IsCellDecl s n (cell.Enum of first) p.plan p.meaning
enum_cell_joined s n of first p (enum, (m, t, i), (l, (k, u, j), e)) = subst (λ (o : PlannedCell). IsCellDecl s n (cell.Enum of first) o.plan o.meaning) e (is.enum_cell of first enum l (subst (Stands s of) i t) (subst (Stands s first) j u))

enum_cell_parted : (s : Scope) (n : ℕ) (of first : Name) (p : CellPlan) (m : Meaning) → IsCellDecl s n (cell.Enum of first) p m → IsEnumCell s n of first (record { plan = p; meaning = m })
enum_cell_parted s n _ _ _ _ (is.enum_cell of first enum l t u) = (enum, (meaning.Enum enum, t, refl), (l, (meaning.Label enum l, u, refl), refl))

abbrev EnumCellFaults : Scope → Name → Name → CheckErr → Type 0
EnumCellFaults s of first f = Unmeant s of (λ m (n : ℕ). m ≡ meaning.Enum n) f ⊎ ((enum : ℕ) × Means s of (meaning.Enum enum) × Unmeant s first (λ m (l : ℕ). m ≡ meaning.Label enum l) f)

enum_cell_blamed : (s : Scope) (at : ℕ) (of first : Name) (f : CheckErr) → EnumCellFaults s of first f → BreaksCell s at (cell.Enum of first) f
enum_cell_blamed s at of first f (inl b) = breaks.in_enum of first f (no_enum s of f b)
enum_cell_blamed s at of first f (inr (enum, (m, t, i), b)) = breaks.in_label of first enum f (subst (Stands s of) i t) (other_label s enum first f b)

enum_cell_blames : (s : Scope) (at : ℕ) (of first : Name) (f : CheckErr) → BreaksCell s at (cell.Enum of first) f → EnumCellFaults s of first f
enum_cell_blames s at _ _ _ (breaks.in_enum of first f b) = inl (enum_not s of f b)
enum_cell_blames s at _ _ _ (breaks.in_label of first enum f t b) = inr (enum, (meaning.Enum enum, t, refl), label_not s enum first f b)

pub cell_agrees : (s : Scope) (n at : ℕ) (d : CellDecl) → Agrees (λ (p : PlannedCell). IsCellDecl s n d p.plan p.meaning) (BreaksCell s at d) (cell_of s n at d)
cell_agrees s n at (cell.Int lo hi first clamp) =
    where_true (int_le lo first && int_le first hi) (Decides-and (int_le lo first) (int_le first hi) (int_le_decides lo first) (int_le_decides first hi))
    (λ i. only_value _ (is.int lo hi first clamp i) (λ p j. int_alone s n lo hi first clamp p.plan p.meaning j) (λ f b. (int_unranged s at lo hi first clamp f b).0 i))
    (λ none. only_fault _ (breaks.no_int_range lo hi first clamp none) (λ f b. (int_unranged s at lo hi first clamp f b).1) (λ p j. none (int_ranged s n lo hi first clamp p.plan p.meaning j)))
cell_agrees s n at (cell.Nums lo hi clamp) =
    where_true (int_le lo hi) (int_le_decides lo hi)
    (λ i. only_value _ (is.nums lo hi clamp i) (λ p j. nums_alone s n lo hi clamp p.plan p.meaning j) (λ f b. (nums_unranged s at lo hi clamp f b).0 i))
    (λ none. only_fault _ (breaks.no_nums_range lo hi clamp none) (λ f b. (nums_unranged s at lo hi clamp f b).1) (λ p j. none (nums_ranged s n lo hi clamp p.plan p.meaning j)))
cell_agrees s n at cell.Words = only_value _ is.words (λ p i. words_alone s n p.plan p.meaning i) (λ f b. elim b [ ])
cell_agrees s n at (cell.Hold parts) =
    in_words (then_made (hold_planned n) (parts_agree s parts))
    (hold_joined s n parts) (λ p. hold_parted s n parts p.plan p.meaning) (λ f b. breaks.in_parts parts f b) (hold_blames s at parts)
cell_agrees s n at (cell.Enum of first) =
    in_words (then_agrees (named_agrees s of (λ o. enum_named of.at o) refl (enum_kinded of.at)) (λ enum i. then_made (enum_cell_planned n enum) (named_agrees s first (λ o. label_named enum first.at o) refl (label_kinded enum first.at))))
    (enum_cell_joined s n of first) (λ p. enum_cell_parted s n of first p.plan p.meaning) (enum_cell_blamed s at of first) (enum_cell_blames s at of first)

-- States.
abbrev state_planned : Scope → StateDecl → PlannedCell → Planned CellPlan
state_planned s d c = record { plan = c.plan; scope = s ++ entry d.name c.meaning ∷ [] }

abbrev IsStateOf : Scope → ℕ → StateDecl → Planned CellPlan → Type 0
IsStateOf s n d p = IsFree s d.name × ((c : PlannedCell) × IsCellDecl (unfinished s d.name) n d.cell c.plan c.meaning × (state_planned s d c ≡ p))

state_joined : (s : Scope) (n : ℕ) (d : StateDecl) (p : Planned CellPlan) → IsStateOf s n d p → IsStateDecl s n d p.plan p.scope
state_joined s n d p (t, (c, i, e)) = subst (λ (q : Planned CellPlan). IsStateDecl s n d q.plan q.scope) e (is.state s n d c.plan c.meaning t i)

state_parted : (s : Scope) (n : ℕ) (d : StateDecl) (p : CellPlan) (later : Scope) → IsStateDecl s n d p later → IsStateOf s n d (record { plan = p; scope = later })
state_parted _ _ _ _ _ (is.state s n d p m t i) = (t, (record { plan = p; meaning = m }, i, refl))

state_blamed : (s : Scope) (n : ℕ) (d : StateDecl) (f : CheckErr) → TakenOr s d.name (BreaksCell (unfinished s d.name) d.name.at d.cell) f → BreaksState s n d f
state_blamed s n d f (inl (m, t, e)) = subst (BreaksState s n d) e (breaks.state_taken d m t)
state_blamed s n d f (inr (t, b)) = breaks.in_cell d f t b

state_blames : (s : Scope) (n : ℕ) (d : StateDecl) (f : CheckErr) → BreaksState s n d f → TakenOr s d.name (BreaksCell (unfinished s d.name) d.name.at d.cell) f
state_blames s n _ _ (breaks.state_taken d m t) = inl (m, t, refl)
state_blames s n _ _ (breaks.in_cell d f t b) = inr (t, b)

pub state_agrees : Plans IsStateDecl BreaksState state_decl
state_agrees s n d =
    in_words (free_agrees s d.name (then_made (state_planned s d) (cell_agrees (unfinished s d.name) n d.name.at d.cell)))
    (state_joined s n d) (λ p. state_parted s n d p.plan p.scope) (state_blamed s n d) (state_blames s n d)
