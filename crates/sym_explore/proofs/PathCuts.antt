-- A path that is cut at the pieces of a cell's span.
use Rattle.std.proofs.Common.{◌≡◌, ◌+◌, ℕ, ℤ, ◌<ℤ◌, ◌≤ℤ◌, Bool, List, [], ◌∷◌, ◌++◌, Option, Some, None, ◌⊎◌, inl, inr, refl, sym, ap, ◌∙◌, subst, append_assoc, arith}
use Rattle.std.proofs.lemmas.Int.{ints}
use Rattle.std.proofs.lemmas.List.{append-nil}
use Rattle.std.proofs.lemmas.List.Elements.{All-push}
use Rattle.std.specs.Prelude.{slice_get, IfSome}
use Rattle.sym_base.specs.States.{number_at}
use Rattle.sym_base.specs.Tests.{Truth}
use Rattle.sym_base.specs.declared.values.state.Cell.TheVariants as cell
use Rattle.sym_base.specs.declared.values.state.State.{State}
use Rattle.sym_base.specs.declared.values.state.Outcome.{Outcome}
use Rattle.sym_check.specs.Meaning.Conditions.{test_truth}
use Rattle.sym_check.specs.Plan.ScriptPlans.{ScriptPlan}
use Rattle.sym_int.specs.Cuts.{Follows, InOrder, InPart, InPieces, count_piece, count_truth, count_with, piece_span}
use Rattle.sym_int.specs.Points.{HasPoint}
use Rattle.sym_int.specs.declared.pieces.Cut.{Cut}
use Rattle.sym_int.specs.declared.pieces.Pieces.{Pieces}
use Rattle.sym_int.specs.declared.span.Span.{Span}
use Rattle.sym_path.specs.Changing.{GoesOn}
use Rattle.sym_path.specs.Giving.{given}
use Rattle.sym_path.specs.Narrowing.{GivesWhere, NarrowsNumbers}
use Rattle.sym_path.specs.declared.part.Part.{Part}
use Rattle.sym_path.specs.declared.part.Part.TheVariants as part
use Rattle.sym_path.specs.declared.path.Path.{Path}
use Rattle.sym_explore.proofs.JudgedBranches.{branches_with-push}
use Rattle.sym_explore.proofs.PathNumbers.{IsHeld, number_is_held, given_none, given_in, given_out}
use Rattle.sym_explore.specs.Branches.{judged, with_truth, branches_with, AreFewBranches, IsGoing, BranchesGo}
use Rattle.sym_explore.specs.Comparing.{ArePieces, ArePiecesOf, CutsPath, IsPiecePushed, PieceTells, PiecesTell}
use Rattle.sym_explore.specs.declared.branch.Branch.{Branch}

pub none_of : {A : Type 0} (o : Option A) → ((x : A) → o ≡ Some x → ⊥) → o ≡ None
none_of None h = refl
none_of (Some x) h = absurd (h x refl)

-- ---- branches, and one more

pub judged_push : (truth : Truth) (branches : List Branch) (b : Branch) (s : State) → judged truth (branches ++ b ∷ []) s ≡ judged truth branches s ++ with_truth (Some b.truth) (given truth b.path s)
judged_push truth [] b s = append-nil (with_truth (Some b.truth) (given truth b.path s))
judged_push truth (x ∷ branches) b s =
    ap (λ (js : List (Outcome × Option Bool)). with_truth (Some x.truth) (given truth x.path s) ++ js) (judged_push truth branches b s)
    ∙ sym (append_assoc (with_truth (Some x.truth) (given truth x.path s)) (judged truth branches s) (with_truth (Some b.truth) (given truth b.path s)))

-- ---- a piece that is pushed

module _ (p : ScriptPlan) (c : ℕ) (piece : Cut) (old : Path) (before after : List Branch) (pushed : IsPiecePushed p c piece old before after) where
  pub pushed_judged : (s : State) (rest : List (Outcome × Option Bool)) → judged (test_truth p.tests) after s ++ rest ≡ judged (test_truth p.tests) before s ++ (with_truth (Some piece.truth) (given (test_truth p.tests) pushed.pushed.path s) ++ rest)
  pushed_judged s rest =
      let b : Branch = pushed.pushed in
      let gives : List Outcome = given (test_truth p.tests) b.path s in
      let longer : judged (test_truth p.tests) after s ≡ judged (test_truth p.tests) before s ++ with_truth (Some b.truth) gives =
      ap (λ (bs : List Branch). judged (test_truth p.tests) bs s) pushed.is ∙ judged_push (test_truth p.tests) before b s in
      let told : judged (test_truth p.tests) after s ≡ judged (test_truth p.tests) before s ++ with_truth (Some piece.truth) gives =
      longer ∙ ap (λ (t : Bool). judged (test_truth p.tests) before s ++ with_truth (Some t) gives) pushed.truth in
      ap (λ (js : List (Outcome × Option Bool)). js ++ rest) told
      ∙ append_assoc (judged (test_truth p.tests) before s) (with_truth (Some piece.truth) gives) rest

  pub pushed_fit : GoesOn old.end → BranchesGo p before → BranchesGo p after
  pushed_fit goes others =
      let b : Branch = pushed.pushed in
      let going : IsGoing p b.path = record { fits = pushed.fits; goes_on = pushed.next goes } in
      subst (BranchesGo p) (sym pushed.is) (All-push (λ (x : Branch). IsGoing p x.path) before b others going)

  pub pushed_with : (x : Bool) → branches_with x after ≡ branches_with x before + count_truth x piece.truth
  pushed_with x =
      ap (branches_with x) pushed.is ∙ branches_with-push x before pushed.pushed
      ∙ ap (λ (t : Bool). branches_with x before + count_truth x t) pushed.truth

-- ---- pieces of a span

pub pieces_span : (o : Option Part) (pieces : Pieces) → ArePiecesOf o pieces → (span : Span) × (o ≡ Some (part.Span span)) × ArePieces span pieces
pieces_span None pieces h = absurd h
pieces_span (Some (part.Set set)) pieces h = absurd h
pieces_span (Some (part.Span span)) pieces h = (span, refl, h)
pieces_span (Some (part.Facts known)) pieces h = absurd h
pieces_span (Some part.Free) pieces h = absurd h

-- A piece within the span of the cell narrows it.
piece_narrows : (o : Option Part) (pieces : Pieces) (piece : Cut) → ArePiecesOf o pieces → ((x : ℤ) → HasPoint piece.span x → InPieces pieces x) → NarrowsNumbers piece.span o
piece_narrows o pieces piece h within =
    let found = pieces_span o pieces h in
    let span : Span = found.0 in
    let ordered : piece.span.lo ≤ℤ piece.span.hi = piece.span.ordered in
    let first : HasPoint piece.span piece.span.lo = (omega (arith, ints), ordered) in
    let last : HasPoint piece.span piece.span.hi = (ordered, omega (arith, ints)) in
    let lo : HasPoint span piece.span.lo = (found.2.cover piece.span.lo).1 (within piece.span.lo first) in
    let hi : HasPoint span piece.span.hi = (found.2.cover piece.span.hi).1 (within piece.span.hi last) in
    subst (NarrowsNumbers piece.span) (sym found.1) (lo.0, hi.1)

pub first_narrows : (o : Option Part) (pieces : Pieces) → ArePiecesOf o pieces → NarrowsNumbers pieces.first.span o
first_narrows o pieces h = piece_narrows o pieces pieces.first h (λ x p. inl p)

in_first : (pieces : Pieces) (x : ℤ) → pieces.second ≡ None → pieces.third ≡ None → InPieces pieces x → HasPoint pieces.first.span x
in_first pieces x e f (inl h) = h
in_first pieces x e f (inr (inl h)) = absurd (subst (λ (q : Option Cut). InPart (piece_span q) x) e h)
in_first pieces x e f (inr (inr h)) = absurd (subst (λ (q : Option Cut). InPart (piece_span q) x) f h)

in_two : (pieces : Pieces) (second : Cut) (x : ℤ) → pieces.second ≡ Some second → pieces.third ≡ None → InPieces pieces x → HasPoint pieces.first.span x ⊎ HasPoint second.span x
in_two pieces second x e f (inl h) = inl h
in_two pieces second x e f (inr (inl h)) = inr (subst (λ (q : Option Cut). InPart (piece_span q) x) e h)
in_two pieces second x e f (inr (inr h)) = absurd (subst (λ (q : Option Cut). InPart (piece_span q) x) f h)

in_three : (pieces : Pieces) (second third : Cut) (x : ℤ) → pieces.second ≡ Some second → pieces.third ≡ Some third → InPieces pieces x → HasPoint pieces.first.span x ⊎ (HasPoint second.span x ⊎ HasPoint third.span x)
in_three pieces second third x e f (inl h) = inl h
in_three pieces second third x e f (inr (inl h)) = inr (inl (subst (λ (q : Option Cut). InPart (piece_span q) x) e h))
in_three pieces second third x e f (inr (inr h)) = inr (inr (subst (λ (q : Option Cut). InPart (piece_span q) x) f h))

two_apart : (pieces : Pieces) (second : Cut) → pieces.second ≡ Some second → pieces.third ≡ None → InOrder pieces.first pieces.second pieces.third → Follows pieces.first second
two_apart pieces second e f h = subst (λ (q : Option Cut). InOrder pieces.first (Some second) q) f (subst (λ (q : Option Cut). InOrder pieces.first q pieces.third) e h)

three_apart : (pieces : Pieces) (second third : Cut) → pieces.second ≡ Some second → pieces.third ≡ Some third → InOrder pieces.first pieces.second pieces.third → Follows pieces.first second × Follows second third
three_apart pieces second third e f h = subst (λ (q : Option Cut). InOrder pieces.first (Some second) q) f (subst (λ (q : Option Cut). InOrder pieces.first q pieces.third) e h)

no_third : (pieces : Pieces) → pieces.second ≡ None → InOrder pieces.first pieces.second pieces.third → pieces.third ≡ None
no_third pieces e h = subst (λ (q : Option Cut). InOrder pieces.first q pieces.third) e h

tells_at : (truth : ℤ → Bool) (o : Option Cut) (piece : Cut) → o ≡ Some piece → IfSome o (PieceTells truth) → PieceTells truth piece
tells_at truth o piece e h = subst (λ (q : Option Cut). IfSome q (PieceTells truth)) e h

later_out : (a b : Span) (x : ℤ) → a.hi <ℤ b.lo → HasPoint a x → ¬ (HasPoint b x)
later_out a b x apart h = λ g. let u = h.1 in let v = g.0 in omega (arith, ints)

earlier_out : (a b : Span) (x : ℤ) → a.hi <ℤ b.lo → HasPoint b x → ¬ (HasPoint a x)
earlier_out a b x apart h = λ g. let u = h.0 in let v = g.1 in omega (arith, ints)

far_apart : (a b d : Span) → a.hi <ℤ b.lo → b.hi <ℤ d.lo → a.hi <ℤ d.lo
far_apart a b d e f = let o : b.lo ≤ℤ b.hi = b.ordered in omega (arith, ints)

-- ---- what the pieces give

-- All of it with one truth, or nothing.
all_told : (v t : Bool) (all gives : List Outcome) (rest : List (Outcome × Option Bool)) → gives ≡ all → t ≡ v → rest ≡ [] → with_truth (Some t) gives ++ rest ≡ with_truth (Some v) all
all_told v t all gives rest e f g = rw (e, f, g) (append-nil (with_truth (Some v) all))

none_told : (t : Bool) (gives : List Outcome) (rest told : List (Outcome × Option Bool)) → gives ≡ [] → rest ≡ told → with_truth (Some t) gives ++ rest ≡ told
none_told t gives rest told e f = rw (e, f) refl

nothing_told : (v : Bool) (all : List Outcome) → all ≡ [] → with_truth (Some v) all ≡ []
nothing_told v all e = ap (with_truth (Some v)) e

module _ (p : ScriptPlan) (c : ℕ) (pieces : Pieces) (old : Path) (parts : ArePiecesOf (slice_get old.when c) pieces) (truth : ℤ → Bool) (tells : PiecesTell truth pieces) (s : State) where
  abbrev tests : Truth
  tests = test_truth p.tests

  abbrev wanted : List (Outcome × Option Bool)
  wanted = with_truth (Some (truth (number_at s c))) (given tests old s)

  abbrev tell : Bool → Path → List (Outcome × Option Bool)
  tell t path = with_truth (Some t) (given tests path s)

  pub held_in : (span : Span) × (slice_get old.when c ≡ Some (part.Span span)) × ArePieces span pieces
  held_in = pieces_span (slice_get old.when c) pieces parts

  one_tells : pieces.second ≡ None → tell pieces.first.truth old ≡ wanted
  one_tells e = elim (number_is_held tests old s c held_in.0 held_in.1) [
    | inl none ↦ nothing_told pieces.first.truth (given tests old s) none ∙ sym (nothing_told (truth (number_at s c)) (given tests old s) none)
    | inr (is, point) ↦
        let inside = in_first pieces (number_at s c) e (no_third pieces e held_in.2.order) ((held_in.2.cover (number_at s c)).0 point) in
        ap (λ (t : Bool). with_truth (Some t) (given tests old s)) (tells.first (number_at s c) inside)
  ]

  -- The two last pieces, where there are none at an earlier one.
  two_tell : (a b : Cut) (pa pb : Path) → GivesWhere old c (part.Span a.span) pa → GivesWhere old c (part.Span b.span) pb → PieceTells truth a → PieceTells truth b → a.span.hi <ℤ b.span.lo → (IsHeld tests old s c held_in.0 → (given tests old s ≡ []) ⊎ ((slice_get s.cells c ≡ Some (cell.Int (number_at s c))) × (HasPoint a.span (number_at s c) ⊎ HasPoint b.span (number_at s c)))) → tell a.truth pa ++ tell b.truth pb ≡ wanted
  two_tell a b pa pb ga gb ta tb apart within = elim (within (number_is_held tests old s c held_in.0 held_in.1)) [
    | inl none ↦
        none_told a.truth (given tests pa s) (tell b.truth pb) wanted (given_none tests old pa c a.span s ga none)
        (nothing_told b.truth (given tests pb s) (given_none tests old pb c b.span s gb none) ∙ sym (nothing_told (truth (number_at s c)) (given tests old s) none))
    | inr (is, inl h) ↦
        all_told (truth (number_at s c)) a.truth (given tests old s) (given tests pa s) (tell b.truth pb)
        (given_in tests old pa c a.span s (number_at s c) ga is h)
        (ta (number_at s c) h)
        (nothing_told b.truth (given tests pb s) (given_out tests old pb c b.span s (number_at s c) gb is (later_out a.span b.span (number_at s c) apart h)))
    | inr (is, inr h) ↦
        none_told a.truth (given tests pa s) (tell b.truth pb) wanted
        (given_out tests old pa c a.span s (number_at s c) ga is (earlier_out a.span b.span (number_at s c) apart h))
        (ap (λ (os : List Outcome). with_truth (Some b.truth) os) (given_in tests old pb c b.span s (number_at s c) gb is h) ∙ ap (λ (t : Bool). with_truth (Some t) (given tests old s)) (tb (number_at s c) h))
  ]

  pub both_tell : (second : Cut) (pa pb : Path) → pieces.second ≡ Some second → pieces.third ≡ None → GivesWhere old c (part.Span pieces.first.span) pa → GivesWhere old c (part.Span second.span) pb → tell pieces.first.truth pa ++ tell second.truth pb ≡ wanted
  both_tell second pa pb e f ga gb =
      two_tell pieces.first second pa pb ga gb tells.first (tells_at truth pieces.second second e tells.second) (two_apart pieces second e f held_in.2.order).0
      (λ h. elim h [
        | inl none ↦ inl none
        | inr (is, point) ↦ inr (is, in_two pieces second (number_at s c) e f ((held_in.2.cover (number_at s c)).0 point))
      ])

  pub all_tell : (second third : Cut) (pa pb pc : Path) → pieces.second ≡ Some second → pieces.third ≡ Some third → GivesWhere old c (part.Span pieces.first.span) pa → GivesWhere old c (part.Span second.span) pb → GivesWhere old c (part.Span third.span) pc → tell pieces.first.truth pa ++ (tell second.truth pb ++ tell third.truth pc) ≡ wanted
  all_tell second third pa pb pc e f ga gb gc =
      let order = three_apart pieces second third e f held_in.2.order in
      let tb = tells_at truth pieces.second second e tells.second in
      let tc = tells_at truth pieces.third third f tells.third in
      elim (number_is_held tests old s c held_in.0 held_in.1) [
        | inl none ↦
            none_told pieces.first.truth (given tests pa s) (tell second.truth pb ++ tell third.truth pc) wanted (given_none tests old pa c pieces.first.span s ga none)
            (two_tell second third pb pc gb gc tb tc order.1.0 (λ h. inl none))
        | inr (is, point) ↦ elim (in_three pieces second third (number_at s c) e f ((held_in.2.cover (number_at s c)).0 point)) [
          | inl h ↦
              all_told (truth (number_at s c)) pieces.first.truth (given tests old s) (given tests pa s) (tell second.truth pb ++ tell third.truth pc)
              (given_in tests old pa c pieces.first.span s (number_at s c) ga is h)
              (tells.first (number_at s c) h)
              (none_told second.truth (given tests pb s) (tell third.truth pc) []
              (given_out tests old pb c second.span s (number_at s c) gb is (later_out pieces.first.span second.span (number_at s c) order.0.0 h))
              (nothing_told third.truth (given tests pc s) (given_out tests old pc c third.span s (number_at s c) gc is (later_out pieces.first.span third.span (number_at s c) (far_apart pieces.first.span second.span third.span order.0.0 order.1.0) h))))
          | inr (inl h) ↦
              none_told pieces.first.truth (given tests pa s) (tell second.truth pb ++ tell third.truth pc) wanted
              (given_out tests old pa c pieces.first.span s (number_at s c) ga is (earlier_out pieces.first.span second.span (number_at s c) order.0.0 h))
              (two_tell second third pb pc gb gc tb tc order.1.0 (λ g. inr (is, inl h)))
          | inr (inr h) ↦
              none_told pieces.first.truth (given tests pa s) (tell second.truth pb ++ tell third.truth pc) wanted
              (given_out tests old pa c pieces.first.span s (number_at s c) ga is (earlier_out pieces.first.span third.span (number_at s c) (far_apart pieces.first.span second.span third.span order.0.0 order.1.0) h))
              (two_tell second third pb pc gb gc tb tc order.1.0 (λ g. inr (is, inr h)))
        ]
      ]

-- ---- a path that is cut

pub cut_one : (p : ScriptPlan) (c : ℕ) (pieces : Pieces) (old : Path) (before : List Branch) → ArePiecesOf (slice_get old.when c) pieces → pieces.second ≡ None → CutsPath p c pieces old before old before pieces.first.truth
cut_one p c pieces old before parts e truth tells s =
    ap (λ (js : List (Outcome × Option Bool)). judged (test_truth p.tests) before s ++ js) (one_tells p c pieces old parts truth tells s e)

pub cut_two : (p : ScriptPlan) (c : ℕ) (pieces : Pieces) (second : Cut) (old path : Path) (before after : List Branch) → ArePiecesOf (slice_get old.when c) pieces → pieces.second ≡ Some second → pieces.third ≡ None → IsPiecePushed p c pieces.first old before after → GivesWhere old c (part.Span second.span) path → CutsPath p c pieces old before path after second.truth
cut_two p c pieces second old path before after parts e f pushed gives truth tells s =
    pushed_judged p c pieces.first old before after pushed s (with_truth (Some second.truth) (given (test_truth p.tests) path s))
    ∙ ap (λ (js : List (Outcome × Option Bool)). judged (test_truth p.tests) before s ++ js)
    (both_tell p c pieces old parts truth tells s second pushed.pushed.path path e f pushed.gives gives)

pub cut_three : (p : ScriptPlan) (c : ℕ) (pieces : Pieces) (second third : Cut) (old path : Path) (before between after : List Branch) → ArePiecesOf (slice_get old.when c) pieces → pieces.second ≡ Some second → pieces.third ≡ Some third → IsPiecePushed p c pieces.first old before between → IsPiecePushed p c second old between after → GivesWhere old c (part.Span third.span) path → CutsPath p c pieces old before path after third.truth
cut_three p c pieces second third old path before between after parts e f first next gives truth tells s =
    pushed_judged p c second old between after next s (with_truth (Some third.truth) (given (test_truth p.tests) path s))
    ∙ pushed_judged p c pieces.first old before between first s (with_truth (Some second.truth) (given (test_truth p.tests) next.pushed.path s) ++ with_truth (Some third.truth) (given (test_truth p.tests) path s))
    ∙ ap (λ (js : List (Outcome × Option Bool)). judged (test_truth p.tests) before s ++ js)
    (all_tell p c pieces old parts truth tells s second third first.pushed.path next.pushed.path path e f first.gives next.gives gives)

-- ---- how many branches

pub few_first : (pieces : Pieces) (before : List Branch) → AreFewBranches (λ x. count_with x pieces) before before pieces.first.truth
few_first pieces before = record { each = λ x. omega arith }

pub few_two : (p : ScriptPlan) (c : ℕ) (pieces : Pieces) (second : Cut) (old : Path) (before after : List Branch) → pieces.second ≡ Some second → IsPiecePushed p c pieces.first old before after → AreFewBranches (λ x. count_with x pieces) before after second.truth
few_two p c pieces second old before after e pushed = record {
  each = λ x.
      let h = pushed_with p c pieces.first old before after pushed x in
      let k : count_piece x pieces.second ≡ count_truth x second.truth = ap (count_piece x) e in
      omega (arith, h, k);
}

pub few_three : (p : ScriptPlan) (c : ℕ) (pieces : Pieces) (second third : Cut) (old : Path) (before between after : List Branch) → pieces.second ≡ Some second → pieces.third ≡ Some third → IsPiecePushed p c pieces.first old before between → IsPiecePushed p c second old between after → AreFewBranches (λ x. count_with x pieces) before after third.truth
few_three p c pieces second third old before between after e f first next = record {
  each = λ x.
      let h = pushed_with p c pieces.first old before between first x in
      let i = pushed_with p c second old between after next x in
      let k : count_piece x pieces.second ≡ count_truth x second.truth = ap (count_piece x) e in
      let l : count_piece x pieces.third ≡ count_truth x third.truth = ap (count_piece x) f in
      omega (arith, h, i, k, l);
}
