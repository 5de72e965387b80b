-- A path admits a state and gives an outcome exactly where this is among what all give.
use Rattle.std.proofs.Common.{◌≡◌, ◌↔◌, ◌⊎◌, zero, suc, Bool, true, false, List, [], ◌∷◌, inl, inr, refl, sym, subst, arith}
use Rattle.std.proofs.lemmas.List.Elements.{Contains-append_cases, Contains-append_left, Contains-append_right}
use Rattle.std.specs.List.{Any, Contains}
use Rattle.std.specs.Prelude.{IsTrue, if◌then◌else◌}
use Rattle.sym_base.specs.Tests.{Truth}
use Rattle.sym_base.specs.declared.values.state.State.{State}
use Rattle.sym_base.specs.declared.values.state.Outcome.{Outcome}
use Rattle.sym_path.specs.declared.path.Path.{Path}
use Rattle.sym_path.specs.Admitting.{Admits, admits}
use Rattle.sym_path.specs.Giving.{AgreeAt, Gives, end_at, given, outcomes}
use Rattle.sym_path.proofs.Decided.{admits_decided}

pub only_item : {A : Type 0} (x o : A) → Contains (x ∷ []) o → x ≡ o
only_item x o (zero, within, is) = is
only_item x o (suc k, within, is) = absurd (omega arith)

pub one_item : {A : Type 0} (x o : A) → x ≡ o → Contains (x ∷ []) o
one_item x o is = (zero, omega arith, is)

pub no_item : {A : Type 0} (o : A) → Contains [] o → ⊥
no_item o (k, within, is) = omega arith

module _ (truth : Truth) (s : State) (o : Outcome) where
  -- One path alone.
  abbrev pub By : Path → Type 0
  By path = Admits truth path.when s × (end_at path.end s ≡ o)

  from_one : (b : Bool) (e : Outcome) → Contains (if b then e ∷ [] else []) o → IsTrue b × (e ≡ o)
  from_one true e h = (refl, only_item e o h)
  from_one false e h = absurd (no_item o h)

  to_one : (b : Bool) (e : Outcome) → IsTrue b → e ≡ o → Contains (if b then e ∷ [] else []) o
  to_one true e h is = one_item e o is
  to_one false e h is = absurd (cc)

  pub given_by : (path : Path) → Contains (given truth path s) o → By path
  given_by path h =
      let one = from_one (admits truth path.when s.cells) (end_at path.end s) h in
      ((admits_decided truth path.when s).0 one.0, one.1)

  pub by_given : (path : Path) → By path → Contains (given truth path s) o
  by_given path h = to_one (admits truth path.when s.cells) (end_at path.end s) ((admits_decided truth path.when s).1 h.0) h.1

  -- All paths.
  gives_first : (path : Path) (paths : List Path) → By path → Gives truth (path ∷ paths) s o
  gives_first path paths h = (zero, path, omega arith, refl, h)

  gives_rest : (path : Path) (paths : List Path) → Gives truth paths s o → Gives truth (path ∷ paths) s o
  gives_rest path paths (k, q, within, is, h) = (suc k, q, omega arith, is, h)

  pub gives_among : (paths : List Path) → Gives truth paths s o → Contains (outcomes truth paths s) o
  gives_among [] (k, q, within, is, h) = absurd (omega arith)
  gives_among (path ∷ paths) (zero, q, within, is, h) =
      Contains-append_left (given truth path s) (outcomes truth paths s) o (by_given path (subst By (sym is) h))
  gives_among (path ∷ paths) (suc k, q, within, is, h) =
      Contains-append_right (given truth path s) (outcomes truth paths s) o (gives_among paths (k, q, omega arith, is, h))

  among_cases : (path : Path) (paths : List Path) → (Contains (outcomes truth paths s) o → Gives truth paths s o) → Contains (given truth path s) o ⊎ Contains (outcomes truth paths s) o → Gives truth (path ∷ paths) s o
  among_cases path paths more (inl h) = gives_first path paths (given_by path h)
  among_cases path paths more (inr h) = gives_rest path paths (more h)

  pub among_gives : (paths : List Path) → Contains (outcomes truth paths s) o → Gives truth paths s o
  among_gives [] h = absurd (no_item o h)
  among_gives (path ∷ paths) h = among_cases path paths (among_gives paths) (Contains-append_cases (given truth path s) (outcomes truth paths s) o h)

pub gives_is : (truth : Truth) (paths : List Path) (s : State) (o : Outcome) → Gives truth paths s o ↔ Contains (outcomes truth paths s) o
gives_is truth paths s o = (gives_among truth s o paths, among_gives truth s o paths)

-- Where two lists of paths give one list of outcomes, they give the same.
pub same_outcomes : (truth : Truth) (paths : List Path) (s : State) (o : Outcome) (os : List Outcome) → outcomes truth paths s ≡ os → Gives truth paths s o ↔ Contains os o
same_outcomes truth paths s o os same = subst (λ (xs : List Outcome). Gives truth paths s o ↔ Contains xs o) same (gives_is truth paths s o)

admits_too : (truth : Truth) (paths others : List Path) (s : State) → AgreeAt truth paths others s → Any (λ (path : Path). Admits truth path.when s) paths → Any (λ (path : Path). Admits truth path.when s) others
admits_too truth paths others s agree (k, path, within, is, h) =
    let (i, other, near, at, by) = (agree (end_at path.end s)).0 (k, path, within, is, (h, refl)) in
    (i, other, near, at, by.0)

pub admitted_alike : (truth : Truth) (paths others : List Path) (s : State) → AgreeAt truth paths others s → Any (λ (path : Path). Admits truth path.when s) paths ↔ Any (λ (path : Path). Admits truth path.when s) others
admitted_alike truth paths others s agree = (
  admits_too truth paths others s agree,
  admits_too truth others paths s (λ o. ((agree o).1, (agree o).0)),
)
