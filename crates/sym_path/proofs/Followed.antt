-- What is left of a cell where another path has to come after.
use Rattle.std.proofs.Common.{◌≡◌, ◌<◌, ◌≤◌, ◌+◌, ◌↔◌, ℕ, ℤ, Bool, true, false, not, ◌&&◌, List, [], ◌∷◌, Option, Some, None, ◌⊎◌, inl, inr, length, refl, sym, ap, ◌∙◌, subst, arith}
use Rattle.std.proofs.lemmas.Bool.{cases_lt, and_parts, and_from}
use Rattle.std.proofs.lemmas.Option.{slice_get_within}
use Rattle.std.specs.Prelude.{slice_get, IsTrue}
use Rattle.sym_enum.specs.Labels.{has_label}
use Rattle.sym_enum.specs.declared.label_set.LabelSet.{LabelSet}
use Rattle.sym_int.specs.Points.{HasPoint, IsPart}
use Rattle.sym_int.specs.declared.span.Span.{Span}
use Rattle.sym_pred.specs.Facts.{Atom, FactMap}
use Rattle.sym_pred.specs.Meaning.{Stands}
use Rattle.sym_pred.specs.declared.form.HoldForm.{HoldForm}
use Rattle.sym_pred.specs.declared.form.HoldForm.TheVariants as hold
use Rattle.sym_path.specs.declared.part.Part.{Part}
use Rattle.sym_path.specs.declared.part.Part.TheVariants as part
use Rattle.sym_path.specs.declared.form.Form.{Form}
use Rattle.sym_path.specs.declared.form.Form.TheVariants as form
use Rattle.sym_path.specs.Left.{PartLeft, CopyNeeds, NeedsHere, NeededBelow}
use Rattle.sym_path.specs.Possible.{LabelMeets, NumberMeets, IsNeeded, IsSaid, IsLeft}
use Rattle.sym_path.specs.Pulling.{zip_all, label_passes, number_passes, Agrees}
use Rattle.sym_path.proofs.Possibly.{labels_meet, numbers_meet}

-- ---- facts

pub passed_copy : (c own : ℕ) (known need met : FactMap) → own ≡ c → ((atom : Atom) (o : Bool) → Stands met atom o ↔ (Stands known atom o ⊎ Stands need atom o)) → (atom : Atom) (o : Bool) → Stands met atom o ↔ (Stands known atom o ⊎ NeedsHere c (form.Hold (hold.Copy own)) (part.Facts need) atom o)
passed_copy c own known need met e h atom o = (
  λ s. elim ((h atom o).0 s) [ inl f ↦ inl f | inr n ↦ inr (e, n) ],
  λ s. (h atom o).1 (elim s [ inl f ↦ inl f | inr n ↦ inr n.1 ]),
)

module _ (forms : List Form) (needs : List Part) (c : ℕ) where
  needed_of : (f : Form) (need : Part) (i : ℕ) (atom : Atom) (o : Bool) → slice_get forms i ≡ Some f → slice_get needs i ≡ Some need → NeedsHere c f need atom o → IsNeeded forms needs c atom o
  needed_of (form.Enum f) need i atom o e g h = absurd h
  needed_of (form.Int f) need i atom o e g h = absurd h
  needed_of (form.Hold (hold.Const parts)) need i atom o e g h = absurd h
  needed_of (form.Hold (hold.Copy d)) (part.Set n) i atom o e g h = absurd h.1
  needed_of (form.Hold (hold.Copy d)) (part.Span n) i atom o e g h = absurd h.1
  needed_of (form.Hold (hold.Copy d)) (part.Facts n) i atom o e g h = record { need = n; meets = record { cell = i; has = e ∙ ap (λ k. Some (form.Hold (hold.Copy k))) h.0; needed = g }; stands = h.1 }
  needed_of (form.Hold (hold.Copy d)) part.Free i atom o e g h = absurd h.1
  needed_of (form.Nums added) need i atom o e g h = absurd h
  needed_of (form.Words added) need i atom o e g h = absurd h

  below_needed : (n : ℕ) (atom : Atom) (o : Bool) → NeededBelow forms needs c n atom o → IsNeeded forms needs c atom o
  below_needed n atom o b = needed_of b.form b.need b.at atom o b.has b.needed b.here

  module _ (known left : FactMap) (i : ℕ) (so_far : (atom : Atom) (o : Bool) → Stands left atom o ↔ (Stands known atom o ⊎ NeededBelow forms needs c i atom o)) where
    said : (atom : Atom) (o : Bool) → Stands left atom o → IsSaid known forms needs c atom o
    said atom o s = elim ((so_far atom o).0 s) [ inl f ↦ inl f | inr b ↦ inr (below_needed i atom o b) ]

    pub agrees_here : (f : Form) (need : Part) → slice_get forms i ≡ Some f → slice_get needs i ≡ Some need → IsLeft forms needs c (part.Facts known) → Agrees c left f need
    agrees_here (form.Enum f) need e g h = tt
    agrees_here (form.Int f) need e g h = tt
    agrees_here (form.Hold (hold.Const parts)) need e g h = tt
    agrees_here (form.Hold (hold.Copy d)) (part.Set n) e g h = λ q. tt
    agrees_here (form.Hold (hold.Copy d)) (part.Span n) e g h = λ q. tt
    agrees_here (form.Hold (hold.Copy d)) (part.Facts n) e g h = λ q clash. h clash.atom clash.outcome (said clash.atom clash.outcome clash.one) (inr (needed_of (form.Hold (hold.Copy d)) (part.Facts n) i clash.atom (not clash.outcome) e g (q, clash.other)))
    agrees_here (form.Hold (hold.Copy d)) part.Free e g h = λ q. tt
    agrees_here (form.Nums added) need e g h = tt
    agrees_here (form.Words added) need e g h = tt

    pub facts_next : (new : FactMap) (f : Form) (need : Part) → slice_get forms i ≡ Some f → slice_get needs i ≡ Some need → ((atom : Atom) (o : Bool) → Stands new atom o ↔ (Stands left atom o ⊎ NeedsHere c f need atom o)) → (atom : Atom) (o : Bool) → Stands new atom o ↔ (Stands known atom o ⊎ NeededBelow forms needs c (i + 1) atom o)
    facts_next new f need e g h atom o = (there, back)
      where
        wider : NeededBelow forms needs c i atom o → NeededBelow forms needs c (i + 1) atom o
        wider b = let l = b.below in record { at = b.at; form = b.form; need = b.need; below = omega arith; has = b.has; needed = b.needed; here = b.here }

        there : Stands new atom o → Stands known atom o ⊎ NeededBelow forms needs c (i + 1) atom o
        there s = elim ((h atom o).0 s) [
          | inl l ↦ elim ((so_far atom o).0 l) [ inl k ↦ inl k | inr b ↦ inr (wider b) ]
          | inr n ↦ inr (record { at = i; form = f; need = need; below = omega arith; has = e; needed = g; here = n })
        ]

        old : NeededBelow forms needs c (i + 1) atom o → Stands left atom o ⊎ NeedsHere c f need atom o
        old b = elim (cases_lt b.at i) [
          | inl l ↦ inl ((so_far atom o).1 (inr (record { at = b.at; form = b.form; need = b.need; below = l; has = b.has; needed = b.needed; here = b.here })))
          | inr p ↦
              let l = b.below in
              let at : b.at ≡ i = omega arith in
              let x : Some b.form ≡ Some f = sym b.has ∙ ap (slice_get forms) at ∙ e in
              let y : Some b.need ≡ Some need = sym b.needed ∙ ap (slice_get needs) at ∙ g in
              let x' : b.form ≡ f = cc in
              let y' : b.need ≡ need = cc in
              inr (subst (λ (k : Part). NeedsHere c f k atom o) y' (subst (λ (k : Form). NeedsHere c k b.need atom o) x' b.here))
        ]

        back : Stands known atom o ⊎ NeededBelow forms needs c (i + 1) atom o → Stands new atom o
        back (inl k) = (h atom o).1 (inl ((so_far atom o).1 (inl k)))
        back (inr b) = (h atom o).1 (old b)

    pub facts_whole : length forms ≤ i → (atom : Atom) (o : Bool) → Stands left atom o ↔ IsSaid known forms needs c atom o
    facts_whole past atom o = (said atom o, back)
      where
        back : IsSaid known forms needs c atom o → Stands left atom o
        back (inl k) = (so_far atom o).1 (inl k)
        back (inr n) =
            let within : n.meets.cell < length forms = slice_get_within forms n.meets.cell (form.Hold (hold.Copy c)) n.meets.has in
            (so_far atom o).1 (inr (record { at = n.meets.cell; form = form.Hold (hold.Copy c); need = part.Facts n.need; below = omega arith; has = n.meets.has; needed = n.meets.needed; here = (refl, n.stands) }))

pub none_below : (forms : List Form) (needs : List Part) (c : ℕ) (known left : FactMap) → left ≡ known → (atom : Atom) (o : Bool) → Stands left atom o ↔ (Stands known atom o ⊎ NeededBelow forms needs c 0 atom o)
none_below forms needs c known left e atom o = (
  λ s. inl (subst (λ (k : FactMap). Stands k atom o) e s),
  λ s. elim s [ inl k ↦ subst (λ (x : FactMap). Stands x atom o) (sym e) k | inr b ↦ absurd (let l = b.below in omega arith) ],
)

-- ---- sets and spans

pub set_part_left : (old new : LabelSet) (forms : List Form) (needs : List Part) (c : ℕ) → ((l : ℕ) → has_label new l ≡ (has_label old l && zip_all (label_passes c l) forms needs)) → IsLeft forms needs c (part.Set old) → PartLeft forms needs c (part.Set old) (part.Set new)
set_part_left old new forms needs c each (l, has, meets) = (
  (l, each l ∙ and_from _ _ has ((labels_meet c l forms needs).1 meets)),
  λ m. (
    λ e. let t = and_parts _ _ (sym (each m) ∙ e) in (t.0, (labels_meet c m forms needs).0 t.1),
    λ h. each m ∙ and_from _ _ h.0 ((labels_meet c m forms needs).1 h.1),
  ),
)

pub span_part_left : (old new : Span) (forms : List Form) (needs : List Part) (c : ℕ) → IsPart (λ x. HasPoint old x × IsTrue (zip_all (number_passes c x) forms needs)) (Some new) → PartLeft forms needs c (part.Span old) (part.Span new)
span_part_left old new forms needs c h x = (
  λ p. let t = (h x).0 p in (t.0, (numbers_meet c x forms needs).0 t.1),
  λ p. (h x).1 (p.0, (numbers_meet c x forms needs).1 p.1),
)

pub span_not_none : (old : Span) (forms : List Form) (needs : List Part) (c : ℕ) → ((x : ℤ) → HasPoint old x × IsTrue (zip_all (number_passes c x) forms needs) → ⊥) → IsLeft forms needs c (part.Span old) → ⊥
span_not_none old forms needs c none (x, has, meets) = none x (has, (numbers_meet c x forms needs).1 meets)

pub passed_at : (c own : ℕ) (known n met : FactMap) (f : HoldForm) (need : Part) → f ≡ hold.Copy own → need ≡ part.Facts n → own ≡ c → ((atom : Atom) (o : Bool) → Stands met atom o ↔ (Stands known atom o ⊎ Stands n atom o)) → (atom : Atom) (o : Bool) → Stands met atom o ↔ (Stands known atom o ⊎ CopyNeeds c need atom o f)
passed_at c own known n met f need e k at h atom o =
    subst (λ (x : HoldForm). Stands met atom o ↔ (Stands known atom o ⊎ CopyNeeds c need atom o x)) (sym e)
    (subst (λ (x : Part). Stands met atom o ↔ (Stands known atom o ⊎ CopyNeeds c x atom o (hold.Copy own))) (sym k) (passed_copy c own known n met at h atom o))
