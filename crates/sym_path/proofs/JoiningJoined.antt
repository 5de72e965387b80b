-- The path that two joinable paths become.
use Rattle.std.proofs.Common.{◌≡◌, Bool, true, false, ◌⊎◌, inl, inr, refl, sym, ap, ◌∙◌, subst}
use Rattle.std.specs.Bool.{Decides}
use Rattle.sym_path.specs.declared.path.PathEnd.{PathEnd}
use Rattle.sym_path.specs.declared.path.PathEnd.TheVariants.{Next, Ended}
use Rattle.sym_path.specs.declared.path.Path.{Path}
use Rattle.sym_path.specs.Fitting.{EndFits}
use Rattle.sym_path.specs.Giving.{end_at}
use Rattle.sym_path.specs.Joining.{EndsAgree, Joinable}
use Rattle.sym_path.specs.Joins.{AreUnited, EndIsTakenTo, IsJoin, IsJoinedEnd}
use Rattle.sym_path.proofs.JoiningUnited.{union_admits, united_turned}
use Rattle.sym_path.proofs.JoiningGives.{end_same}
use Rattle.sym_path.proofs.JoiningFits.{union_parts, union_end}

-- Ends that agree: one of them, taken on the other's constraint, is the other.
ends_taken : (p q : Path) → EndsAgree p q → EndIsTakenTo q.when p.end q.end ⊎ EndIsTakenTo p.when q.end p.end
ends_taken p q h = go p.end q.end refl refl
  where
    go : (e f : PathEnd) → p.end ≡ e → q.end ≡ f → EndIsTakenTo q.when e f ⊎ EndIsTakenTo p.when f e
    go (Next fs) (Next gs) a b = rw (a, b) at h
    go (Next fs) (Ended g) a b = absurd (rw (a, b) at h)
    go (Ended g) (Next gs) a b = absurd (rw (a, b) at h)
    go (Ended x) (Ended y) a b = inl (rw (a, b) at h)

module _ (p q joined : Path) (united : AreUnited p.when q.when joined.when) where
  -- The joined path ends as the first one.
  with_first : EndIsTakenTo q.when p.end q.end → joined.end ≡ p.end → IsJoin p q joined
  with_first taken is = record {
    admits = λ truth s. union_admits truth p.when q.when joined.when s united;
    first = λ truth s h. ap (λ e. end_at e s) is;
    second = λ truth s h. ap (λ e. end_at e s) is ∙ sym (end_same truth q.when s h p.end q.end taken);
    end = inl is;
    fits = λ plan a b. record {
      parts = union_parts plan p.when q.when joined.when united a.parts b.parts;
      end = subst (λ e. EndFits plan joined.when e) (sym is) (union_end plan p.when q.when joined.when united a.parts b.parts p.end q.end taken a.end b.end);
    };
  }

  -- It ends as the second one.
  with_second : EndIsTakenTo p.when q.end p.end → joined.end ≡ q.end → IsJoin p q joined
  with_second taken is =
      let turned = united_turned p.when q.when joined.when united in
      record {
        admits = λ truth s. union_admits truth p.when q.when joined.when s united;
        first = λ truth s h. ap (λ e. end_at e s) is ∙ sym (end_same truth p.when s h q.end p.end taken);
        second = λ truth s h. ap (λ e. end_at e s) is;
        end = inr is;
        fits = λ plan a b. record {
          parts = union_parts plan p.when q.when joined.when united a.parts b.parts;
          end = subst (λ e. EndFits plan joined.when e) (sym is) (union_end plan q.when p.when joined.when turned b.parts a.parts q.end p.end taken b.end a.end);
        };
      }

  pub joined_by : IsJoinedEnd p q joined.end → IsJoin p q joined
  joined_by (inl h) = with_first h.0 h.1
  joined_by (inr h) = with_second h.0 h.1

-- Whether the first end is taken decides which end it is.
pub first_end : (p q : Path) (e : PathEnd) (first : Bool) → Decides first (EndIsTakenTo q.when p.end q.end) → first ≡ true → e ≡ p.end → IsJoinedEnd p q e
first_end p q e first d h is = inl (d.0 h, is)

pub second_end : (p q : Path) (e : PathEnd) (first : Bool) → Joinable p q → Decides first (EndIsTakenTo q.when p.end q.end) → first ≡ false → e ≡ q.end → IsJoinedEnd p q e
second_end p q e first j d h is = elim (ends_taken p q j.ends) [
  | inl t ↦ let own = d.1 t in absurd (cc)
  | inr t ↦ inr (t, is)
]
