-- Lawful saved runs that are stored are read as they are written.
use Rattle.std.proofs.Common.{◌≡◌, ℕ, suc, ◌+◌, ◌<◌, List, [], ◌∷◌, get_or, length, Option, Some, refl, sym, ap, subst, ◌∙◌, arith}
use Rattle.std.specs.Prelude.{IfSome, slice_get}
use Rattle.std.specs.List.{All, AllZip}
use Rattle.std.proofs.lemmas.List.{length-append, length-map}
use Rattle.std.proofs.lemmas.List.Elements.{All-cons, All-head, All-nil, All-tail, All-weaker}
use Rattle.std.proofs.lemmas.Option.{slice_get-get_or}
use Rattle.sym_base.specs.declared.values.value.Value.{Value}
use Rattle.sym_base.specs.declared.values.value.Value.TheVariants as value
use Rattle.sym_check.specs.declared.plan.script.CellPlan.{CellPlan}
use Rattle.sym_check.specs.declared.plan.script.CellPlan.TheVariants as plan
use Rattle.sym_check.specs.declared.plan.script.EnumPlan.{EnumPlan}
use Rattle.sym_check.specs.declared.plan.script.FieldPlan.{FieldPlan}
use Rattle.sym_check.specs.declared.plan.script.KindPlan.{KindPlan}
use Rattle.sym_check.specs.declared.plan.script.KindPlan.TheVariants as kind
use Rattle.sym_check.specs.Meaning.Validity.{AreOfKinds, IsOfField, IsOfKind, field_kinds}
use Rattle.sym_check.specs.Plan.ScriptPlans.{ScriptPlan}
use Rattle.sym_check.specs.Plan.WellFormed.{IsWellFormed}
use Rattle.sym_enum.specs.declared.form.EnumForm.{EnumForm}
use Rattle.sym_enum.specs.declared.form.EnumForm.TheVariants as label
use Rattle.sym_pred.specs.Literals.{literals}
use Rattle.sym_pred.specs.declared.form.HoldForm.{HoldForm}
use Rattle.sym_pred.specs.declared.form.HoldForm.TheVariants as hold
use Rattle.sym_pred.specs.declared.literal.Literal.{Literal}
use Rattle.sym_path.specs.Fitting.{EndFits, FormFits, PartFits, PathFits, Suits}
use Rattle.sym_path.specs.Fitting as fitting
use Rattle.sym_path.specs.declared.part.Part.{Part}
use Rattle.sym_path.specs.declared.part.Part.TheVariants as part
use Rattle.sym_path.specs.declared.form.Form.{Form}
use Rattle.sym_path.specs.declared.form.Form.TheVariants as form
use Rattle.sym_path.specs.declared.path.Path.{Path}
use Rattle.sym_path.specs.declared.path.PathEnd.{PathEnd}
use Rattle.sym_path.specs.declared.path.PathEnd.TheVariants.{Next, Ended}
use Rattle.sym_run.specs.Chained.{Chained}
use Rattle.sym_run.specs.SavedRuns.{IsLawfulChain, IsLawfulGroup, IsLawfulPath, IsLawfulSaved, IsLawfulSegment}
use Rattle.sym_run.specs.declared.saved.Saved.{Saved}
use Rattle.sym_file.specs.Reading.{arguments_in, body_at}
use Rattle.sym_file.specs.Stored.{AreStored, IsStored, IsStoredChain, IsStoredEnd, IsStoredForm, IsStoredGroup, IsStoredHoldForm, IsStoredLabelForm, IsStoredLiteral, IsStoredPart, IsStoredPath, IsStoredSegment, IsStoredValue}
use Rattle.sym_file.specs.Texts.{body_text}
use Rattle.sym_file.proofs.Codecs.{AreMany}
use Rattle.sym_file.proofs.FormTexts.{IsFormOf, IsHoldForm, IsLabelForm}
use Rattle.sym_file.proofs.Groups.{Group, IsBodyRead, IsGroupRead, body_again}
use Rattle.sym_file.proofs.PartTexts.{IsCalled, IsPartOf}
use Rattle.sym_file.proofs.PathTexts.{IsChainRead, IsEndOf, IsPathOf}
use Rattle.sym_file.proofs.ValueTexts.{IsWritten}

-- ---- lists
both_zip : {A B : Type 0} (P : A → B → Type 0) (Q : B → Type 0) (R : A → B → Type 0) → ((a : A) (b : B) → P a b → Q b → R a b) → (xs : List A) (ys : List B) → AllZip P xs ys → All Q ys → AllZip R xs ys
both_zip P Q R h [] [] z all = tt
both_zip P Q R h [] (y ∷ ys) z all = absurd z
both_zip P Q R h (x ∷ xs) [] z all = absurd z
both_zip P Q R h (x ∷ xs) (y ∷ ys) z all = (h x y z.0 (All-head Q y ys all), both_zip P Q R h xs ys z.1 (All-tail Q y ys all))

zip_many : {A B : Type 0} (P : A → B → Type 0) (Q R : B → Type 0) → ((a : A) (b : B) → P a b → Q b → R b) → (xs : List A) (ys : List B) → AllZip P xs ys → All Q ys → AreMany R (length xs) ys
zip_many P Q R h [] [] z all = record { many = refl; each = All-nil R }
zip_many P Q R h [] (y ∷ ys) z all = absurd z
zip_many P Q R h (x ∷ xs) [] z all = absurd z
zip_many P Q R h (x ∷ xs) (y ∷ ys) z all =
    let rest = zip_many P Q R h xs ys z.1 (All-tail Q y ys all) in
    record { many = ap suc rest.many; each = All-cons R y ys (h x y z.0 (All-head Q y ys all)) rest.each }

both_all : {A : Type 0} (P Q R : A → Type 0) → ((a : A) → P a → Q a → R a) → (xs : List A) → All P xs → All Q xs → All R xs
both_all P Q R h [] p q = All-nil R
both_all P Q R h (x ∷ xs) p q = All-cons R x xs (h x (All-head P x xs p) (All-head Q x xs q)) (both_all P Q R h xs (All-tail P x xs p) (All-tail Q x xs q))

-- ---- values
value_written : (enums : List EnumPlan) (k : KindPlan) (v : Value) → IsOfKind enums k v → IsStoredValue v → IsWritten v
value_written enums kind.Num (value.Num x) is s = is
value_written enums kind.Num (value.Word t) is s = absurd is
value_written enums kind.Num (value.Label l) is s = absurd is
value_written enums kind.Word (value.Num x) is s = absurd is
value_written enums kind.Word (value.Word t) is s = s
value_written enums kind.Word (value.Label l) is s = absurd is
value_written enums (kind.Label enum) (value.Num x) is s = absurd is
value_written enums (kind.Label enum) (value.Word t) is s = absurd is
value_written enums (kind.Label enum) (value.Label l) is s = s

values_written : (enums : List EnumPlan) (kinds : List KindPlan) (vs : List Value) → AreOfKinds enums kinds vs → All IsStoredValue vs → AreMany IsWritten (length kinds) vs
values_written enums kinds vs h s = zip_many (IsOfKind enums) IsStoredValue IsWritten (value_written enums) kinds vs h s

module _ (p : ScriptPlan) where
  -- A field that is there has a kind.
  kind_there : (field : ℕ) → field < length p.fields → (k : KindPlan) × (slice_get (field_kinds p) field ≡ Some k)
  kind_there field there =
      let long : length (field_kinds p) ≡ length p.fields = length-map p.fields (λ (f : FieldPlan). f.kind) in
      (get_or (field_kinds p) field kind.Num, slice_get-get_or (field_kinds p) field kind.Num (omega (arith, long, there)))

  of_field : (field : ℕ) (v : Value) → field < length p.fields → IsOfField p field v → IsStoredValue v → IsWritten v
  of_field field v there is s =
      let k = kind_there field there in
      value_written p.enums k.0 v (subst (λ (o : Option KindPlan). IfSome o (λ kind. IsOfKind p.enums kind v)) k.1 is) s

  key_written : (fields : List ℕ) (vs : List Value) → All (λ g. g < length p.fields) fields → AllZip (IsOfField p) fields vs → All IsStoredValue vs → AreMany IsWritten (length fields) vs
  key_written [] [] there z s = record { many = refl; each = All-nil IsWritten }
  key_written [] (v ∷ vs) there z s = absurd z
  key_written (f ∷ fields) [] there z s = absurd z
  key_written (f ∷ fields) (v ∷ vs) there z s =
      let rest = key_written fields vs (All-tail (λ g. g < length p.fields) f fields there) z.1 (All-tail IsStoredValue v vs s) in
      record {
        many = ap suc rest.many;
        each = All-cons IsWritten v vs (of_field f v (All-head (λ g. g < length p.fields) f fields there) z.0 (All-head IsStoredValue v vs s)) rest.each;
      }

  -- ---- parts
  literal_called : (kinds : List KindPlan) (l : Literal) → Suits p kinds l → IsStoredLiteral l → IsCalled p (length kinds) l
  literal_called kinds l h s =
      let params : length h.called.params ≡ length kinds + length h.others = ap length h.params ∙ length-append kinds h.others in
      let count : arguments_in (length kinds) (slice_get p.tests l.test) ≡ length h.others = ap (arguments_in (length kinds)) h.is_test ∙ omega (arith, params) in
      record {
        test = s.test;
        args = subst (λ (n : ℕ). AreMany IsWritten n l.args) (sym count) (values_written p.enums h.others l.args h.args s.args);
      }

  part_of : (cell : CellPlan) (q : Part) → PartFits p cell q → IsStoredPart q → IsPartOf p cell q
  part_of _ _ (fitting.labels of first set h) s = tt
  part_of _ _ (fitting.numbers lo hi first span h) s = tt
  part_of _ _ (fitting.parts kinds first known h) s = (s.many, both_all (Suits p kinds) IsStoredLiteral (IsCalled p (length kinds)) (literal_called kinds) (literals known) h s.each)
  part_of _ _ (fitting.free_nums lo hi) s = tt
  part_of _ _ fitting.free_words s = tt

  -- ---- forms
  form_of : (when : List Part) (cell : CellPlan) (f : Form) → FormFits p when cell f → IsStoredForm f → IsFormOf cell f
  form_of when _ _ (fitting.of_label of first l h) s = s
  form_of when _ _ (fitting.copied_label of first c h) s = s
  form_of when _ _ (fitting.of_number lo hi first f h) s = s
  form_of when _ _ (fitting.of_parts kinds first parts h) s = values_written p.enums kinds parts h s
  form_of when _ _ (fitting.copied_parts kinds first c h) s = s
  form_of when _ _ (fitting.of_numbers lo hi added h) s = (s.many, s.each)
  form_of when _ _ (fitting.of_words added) s = (s.many, s.each)

  end_of : (when : List Part) (end : PathEnd) → EndFits p when end → IsStoredEnd end → IsEndOf p end
  end_of when (Next forms) h s = both_zip (FormFits p when) IsStoredForm IsFormOf (form_of when) p.cells forms h.each s
  end_of when (Ended ended) h s = s

  path_of : (path : Path) → PathFits p path → IsStoredPath path → IsPathOf p path
  path_of path h s = record {
    when = both_zip (PartFits p) IsStoredPart (IsPartOf p) part_of p.cells path.when h.parts s.when;
    end = end_of path.when path.end h.end s.end;
  }

  module _ (first next : ℕ) where
    segment_of : (paths : List Path) → IsLawfulSegment p first next paths → IsStoredSegment paths → AreStored (IsPathOf p) paths
    segment_of paths h s = record {
      many = s.many;
      each = both_all (IsLawfulPath p first next) IsStoredPath (IsPathOf p) (λ path l t. path_of path l.fits t) paths h.each s.each;
    }

    chain_of_read : (chain : Chained) → IsLawfulChain p first next chain → IsStoredChain chain → IsChainRead p chain
    chain_of_read chain h s = record {
      some = h.some;
      closed = h.closed;
      each = record {
        many = s.many;
        each = both_all (IsLawfulSegment p first next) IsStoredSegment (AreStored (IsPathOf p)) segment_of chain.segments h.each s.each;
      };
    }

    group_of : All (λ g. g < length p.fields) p.group → (group : Group) → IsLawfulGroup p first next group → IsStoredGroup group → IsGroupRead p group
    group_of there group h s = record {
      key = key_written p.group group.0.values there h.key s.key;
      chain = chain_of_read group.1 h.chain s.chain;
    }

pub lawful_read : (p : ScriptPlan) (saved : Saved) → IsWellFormed p → IsLawfulSaved p saved → IsStored saved → body_at p (body_text saved) ≡ Some saved
lawful_read p saved formed h s =
    body_again p saved s.first s.next s.groups.many h.distinct
    (both_all (IsLawfulGroup p saved.first saved.next) IsStoredGroup (IsGroupRead p) (group_of p saved.first saved.next formed.group) saved.groups h.each s.groups.each)

-- ---- what is read is stored
value_stored : (v : Value) → IsWritten v → IsStoredValue v
value_stored (value.Num x) h = tt
value_stored (value.Label l) h = h
value_stored (value.Word t) h = h

values_stored : (n : ℕ) (vs : List Value) → AreMany IsWritten n vs → All IsStoredValue vs
values_stored n vs h = All-weaker IsWritten IsStoredValue value_stored vs h.each

zip_stored : {A B : Type 0} (P : A → B → Type 0) (Q : B → Type 0) → ((a : A) (b : B) → P a b → Q b) → (xs : List A) (ys : List B) → AllZip P xs ys → All Q ys
zip_stored P Q h [] [] z = All-nil Q
zip_stored P Q h [] (y ∷ ys) z = absurd z
zip_stored P Q h (x ∷ xs) [] z = absurd z
zip_stored P Q h (x ∷ xs) (y ∷ ys) z = All-cons Q y ys (h x y z.0) (zip_stored P Q h xs ys z.1)

module _ (p : ScriptPlan) where
  literal_stored : (parts : ℕ) (l : Literal) → IsCalled p parts l → IsStoredLiteral l
  literal_stored parts l h = record { test = h.test; args = values_stored (arguments_in parts (slice_get p.tests l.test)) l.args h.args }

  part_stored : (cell : CellPlan) (q : Part) → IsPartOf p cell q → IsStoredPart q
  part_stored cell (part.Set set) h = tt
  part_stored cell (part.Span span) h = tt
  part_stored (plan.Enum of first) (part.Facts known) h = absurd h
  part_stored (plan.Int lo hi first clamp) (part.Facts known) h = absurd h
  part_stored (plan.Hold kinds first) (part.Facts known) h = record {
    many = h.0;
    each = All-weaker (IsCalled p (length kinds)) IsStoredLiteral (literal_stored (length kinds)) (literals known) h.1;
  }
  part_stored (plan.Nums lo hi clamp) (part.Facts known) h = absurd h
  part_stored plan.Words (part.Facts known) h = absurd h
  part_stored cell part.Free h = tt

  label_form_stored : (f : EnumForm) → IsLabelForm f → IsStoredLabelForm f
  label_form_stored (label.Const l) h = h
  label_form_stored (label.Copy c) h = h

  hold_form_stored : (parts : ℕ) (f : HoldForm) → IsHoldForm parts f → IsStoredHoldForm f
  hold_form_stored parts (hold.Const vs) h = values_stored parts vs h
  hold_form_stored parts (hold.Copy c) h = h

  form_stored : (cell : CellPlan) (f : Form) → IsFormOf cell f → IsStoredForm f
  form_stored (plan.Enum of first) (form.Enum f) h = label_form_stored f h
  form_stored (plan.Enum of first) (form.Int f) h = absurd h
  form_stored (plan.Enum of first) (form.Hold f) h = absurd h
  form_stored (plan.Enum of first) (form.Nums xs) h = absurd h
  form_stored (plan.Enum of first) (form.Words xs) h = absurd h
  form_stored (plan.Int lo hi first clamp) (form.Enum f) h = absurd h
  form_stored (plan.Int lo hi first clamp) (form.Int f) h = h
  form_stored (plan.Int lo hi first clamp) (form.Hold f) h = absurd h
  form_stored (plan.Int lo hi first clamp) (form.Nums xs) h = absurd h
  form_stored (plan.Int lo hi first clamp) (form.Words xs) h = absurd h
  form_stored (plan.Hold kinds first) (form.Enum f) h = absurd h
  form_stored (plan.Hold kinds first) (form.Int f) h = absurd h
  form_stored (plan.Hold kinds first) (form.Hold f) h = hold_form_stored (length kinds) f h
  form_stored (plan.Hold kinds first) (form.Nums xs) h = absurd h
  form_stored (plan.Hold kinds first) (form.Words xs) h = absurd h
  form_stored (plan.Nums lo hi clamp) (form.Enum f) h = absurd h
  form_stored (plan.Nums lo hi clamp) (form.Int f) h = absurd h
  form_stored (plan.Nums lo hi clamp) (form.Hold f) h = absurd h
  form_stored (plan.Nums lo hi clamp) (form.Nums xs) h = record { many = h.0; each = h.1 }
  form_stored (plan.Nums lo hi clamp) (form.Words xs) h = absurd h
  form_stored plan.Words (form.Enum f) h = absurd h
  form_stored plan.Words (form.Int f) h = absurd h
  form_stored plan.Words (form.Hold f) h = absurd h
  form_stored plan.Words (form.Nums xs) h = absurd h
  form_stored plan.Words (form.Words xs) h = record { many = h.0; each = h.1 }

  end_stored : (end : PathEnd) → IsEndOf p end → IsStoredEnd end
  end_stored (Next forms) h = zip_stored IsFormOf IsStoredForm form_stored p.cells forms h
  end_stored (Ended ended) h = h

  path_stored : (path : Path) → IsPathOf p path → IsStoredPath path
  path_stored path h = record { when = zip_stored (IsPartOf p) IsStoredPart part_stored p.cells path.when h.when; end = end_stored path.end h.end }

  segment_stored : (paths : List Path) → AreStored (IsPathOf p) paths → IsStoredSegment paths
  segment_stored paths h = record { many = h.many; each = All-weaker (IsPathOf p) IsStoredPath path_stored paths h.each }

  group_stored : (group : Group) → IsGroupRead p group → IsStoredGroup group
  group_stored group h = record {
    key = values_stored (length p.group) group.0.values h.key;
    chain = record { many = h.chain.each.many; each = All-weaker (AreStored (IsPathOf p)) IsStoredSegment segment_stored group.1.segments h.chain.each.each };
  }

  pub read_stored : (saved : Saved) → IsBodyRead p saved → IsStored saved
  read_stored saved h = record {
    first = h.first;
    next = h.next;
    groups = record { many = h.many; each = All-weaker (IsGroupRead p) IsStoredGroup group_stored saved.groups h.each };
  }
