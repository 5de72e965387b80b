-- The fields that the update of a well formed plan names are there.
use Rattle.std.proofs.Common.{◌≡◌, refl, subst, ℕ, ◌<◌, List, [], ◌∷◌, length}
use Rattle.std.specs.List.{AllZip}
use Rattle.std.proofs.lemmas.List.{length-map}
use Rattle.std.proofs.lemmas.Option.{slice_get_within}
use Rattle.sym_check.specs.declared.plan.expression.WordOf.{WordOf}
use Rattle.sym_check.specs.declared.plan.expression.LabelOf.{LabelOf}
use Rattle.sym_check.specs.declared.plan.script.EnumPlan.{EnumPlan}
use Rattle.sym_check.specs.declared.plan.script.KindPlan.{KindPlan}
use Rattle.sym_check.specs.declared.plan.script.KindPlan.TheVariants as kind
use Rattle.sym_check.specs.declared.plan.script.FieldPlan.{FieldPlan}
use Rattle.sym_check.specs.declared.plan.script.CellPlan.{CellPlan}
use Rattle.sym_check.specs.Plan.FixedPlans.{NumPlan, FixedPlan}
use Rattle.sym_check.specs.Plan.LinePlans.{LinePlan, TermPlan}
use Rattle.sym_check.specs.Plan.CondPlans.{CondPlan}
use Rattle.sym_check.specs.Plan.DoPlans.{DoPlan, DosPlan}
use Rattle.sym_check.specs.Plan.ScriptPlans.{ScriptPlan}
use Rattle.sym_check.specs.Plan.WellFormed.{Kinds, IsNum, IsWord, IsLabel, IsFixed, IsLine, IsTerm, IsCond, IsDo, IsDos, IsWellFormed, known_kinds}
use Rattle.sym_check.specs.Plan.WellFormed as well
use Rattle.sym_reads.specs.Naming.{NumNames, WordNames, LabelNames, FixedNames, SomeNames, LineNames, TermNames, CondNames, DoNames, DosNames, NamesField}
use Rattle.sym_reads.specs.Naming as names

num_there : (k : Kinds) (i : ℕ) (n : NumPlan) → NumNames i n → IsNum k n → i < length k.fields
num_there k i _ names.field_number t = slice_get_within k.fields i kind.Num t
num_there k i _ (names.opposite n h) t = num_there k i n h t
num_there k i _ (names.left op l r h) t = num_there k i l h t.0
num_there k i _ (names.right op l r h) t = num_there k i r h t.1

word_there : (k : Kinds) (i : ℕ) (w : WordOf) → WordNames i w → IsWord k w → i < length k.fields
word_there k i _ names.field_word t = slice_get_within k.fields i kind.Word t

label_there : (enums : List EnumPlan) (k : Kinds) (enum i : ℕ) (l : LabelOf) → LabelNames i l → IsLabel enums k enum l → i < length k.fields
label_there enums k enum i _ names.field_label t = slice_get_within k.fields i (kind.Label enum) t

fixed_there : (enums : List EnumPlan) (k : Kinds) (i : ℕ) (wanted : KindPlan) (e : FixedPlan) → IsFixed enums k wanted e → FixedNames i e → i < length k.fields
fixed_there enums k i _ _ (well.of_num n t) (names.in_number _ h) = num_there k i n h t
fixed_there enums k i _ _ (well.of_word w t) (names.in_word _ h) = word_there k i w h t
fixed_there enums k i _ _ (well.of_label enum l t) (names.in_label _ h) = label_there enums k enum i l h t

some_there : (enums : List EnumPlan) (k : Kinds) (i : ℕ) (kinds : List KindPlan) (es : List FixedPlan) → SomeNames i es → AllZip (IsFixed enums k) kinds es → i < length k.fields
some_there enums k i [] _ (names.first_value e rest h) z = absurd z
some_there enums k i (wanted ∷ kinds) _ (names.first_value e rest h) z = fixed_there enums k i wanted e z.0 h
some_there enums k i [] _ (names.later_value e rest h) z = absurd z
some_there enums k i (wanted ∷ kinds) _ (names.later_value e rest h) z = some_there enums k i kinds rest h z.1

line_there : (cells : List CellPlan) (k : Kinds) (i : ℕ) (l : LinePlan) → LineNames i l → IsLine cells k l → i < length k.fields
line_there cells k i _ (names.opposite_line l h) t = line_there cells k i l h t
line_there cells k i _ (names.line_before l n h) t = line_there cells k i l h t.0
line_there cells k i _ (names.added l n h) t = num_there k i n h t.1
line_there cells k i _ (names.factor n l h) t = num_there k i n h t.0
line_there cells k i _ (names.scaled n l h) t = line_there cells k i l h t.1

term_there : (cells : List CellPlan) (k : Kinds) (i : ℕ) (t : TermPlan) → TermNames i t → IsTerm cells k t → i < length k.fields
term_there cells k i _ (names.fixed_term n h) t = num_there k i n h t
term_there cells k i _ (names.line_term l h) t = line_there cells k i l h t

cond_there : (p : ScriptPlan) (k : Kinds) (i : ℕ) (c : CondPlan) → CondNames i c → IsCond p k c → i < length k.fields
cond_there p k i _ (names.left_number compare t n h) w = term_there p.cells k i t h w.0
cond_there p k i _ (names.right_number compare t n h) w = num_there k i n h w.1
cond_there p k i _ (names.left_word v u h) w = word_there k i v h w.0
cond_there p k i _ (names.right_word v u h) w = word_there k i u h w.1
cond_there p k i _ (names.label_of_cell c l h) w = label_there p.enums k w.enum i l h w.is_label
cond_there p k i _ (names.left_label l m h) w = label_there p.enums k w.enum i l h w.left
cond_there p k i _ (names.right_label l m h) w = label_there p.enums k w.enum i m h w.right
cond_there p k i _ (names.argument test c args h) w = some_there p.enums k i w.others args h w.arguments
cond_there p k i _ (names.denied c h) w = cond_there p k i c h w
cond_there p k i _ (names.left_of_and c d h) w = cond_there p k i c h w.0
cond_there p k i _ (names.right_of_and c d h) w = cond_there p k i d h w.1
cond_there p k i _ (names.left_of_or c d h) w = cond_there p k i c h w.0
cond_there p k i _ (names.right_of_or c d h) w = cond_there p k i d h w.1

-- A statement leaves the kinds of fields alone.
same_fields : (p : ScriptPlan) (k later : Kinds) (d : DoPlan) → IsDo p k d later → later.fields ≡ k.fields
same_fields p _ _ _ (well.let_value k n last e free t) = refl
same_fields p _ _ _ (well.set_int k c t w u) = refl
same_fields p _ _ _ (well.set_enum k c l w) = refl
same_fields p _ _ _ (well.copy_enum k c d w) = refl
same_fields p _ _ _ (well.keep k c es w) = refl
same_fields p _ _ _ (well.keep_from k c d w) = refl
same_fields p _ _ _ (well.push_num k c t w u) = refl
same_fields p _ _ _ (well.push_word k c w u t) = refl
same_fields p _ _ _ (well.branch k c a b t ta tb) = refl

mutual
  do_there : (p : ScriptPlan) (i : ℕ) (k later : Kinds) (d : DoPlan) → IsDo p k d later → DoNames i d → i < length k.fields
  do_there p i _ _ _ (well.let_value k n last e free t) (names.local_value _ _ h) = fixed_there p.enums k i last e t h
  do_there p i _ _ _ (well.set_int k c t w u) (names.assigned_number _ _ h) = term_there p.cells k i t h u
  do_there p i _ _ _ (well.set_enum k c l w) (names.assigned_label _ _ h) = label_there p.enums k w.enum i l h w.is_label
  do_there p i _ _ _ (well.copy_enum k c d w) h = elim h [ ]
  do_there p i _ _ _ (well.keep k c es w) (names.kept _ _ h) = some_there p.enums k i w.parts es h w.kept
  do_there p i _ _ _ (well.keep_from k c d w) h = elim h [ ]
  do_there p i _ _ _ (well.push_num k c t w u) (names.pushed_number _ _ h) = term_there p.cells k i t h u
  do_there p i _ _ _ (well.push_word k c w u t) (names.pushed_word _ _ h) = word_there k i w h t
  do_there p i _ _ _ (well.branch k c a b t ta tb) (names.condition _ _ _ h) = cond_there p k i c h t
  do_there p i _ _ _ (well.branch k c a b t ta tb) (names.where_true _ _ _ h) = dos_there p i k a ta h
  do_there p i _ _ _ (well.branch k c a b t ta tb) (names.where_false _ _ _ h) = dos_there p i k b tb h

  dos_there : (p : ScriptPlan) (i : ℕ) (k : Kinds) (ds : DosPlan) → IsDos p k ds → DosNames i ds → i < length k.fields
  dos_there p i _ _ (well.finished k) h = elim h [ ]
  dos_there p i _ _ (well.followed k later d rest t r) (names.first _ _ h) = do_there p i k later d t h
  dos_there p i _ _ (well.followed k later d rest t r) (names.later _ _ h) =
      subst (λ (ks : List KindPlan). i < length ks) (same_fields p k later d t) (dos_there p i later rest r h)

pub named_declared : (p : ScriptPlan) (i : ℕ) → IsWellFormed p → NamesField p i → i < length p.fields
named_declared p i w h =
    subst (λ (n : ℕ). i < n) (length-map p.fields (λ (f : FieldPlan). f.kind)) (dos_there p i (known_kinds p) p.update w.update h)
