-- Paths that end in turn, no two of which can be joined.
use Rattle.std.proofs.Common.{◌≡◌, ◌<◌, ◌++◌, ◌∷◌, [], true, false, List, Option, Some, None, get_or, refl, ap, arith}
use Rattle.std.proofs.lemmas.List.Elements.{All-get_or, All-nil, All-push, All-weaker}
use Rattle.std.proofs.lemmas.List.Quantifiers.{all_pairs_push}
use Rattle.std.specs.Prelude.{IfSome, is_some}
use Rattle.sym_base.specs.declared.values.state.Fault.{Fault}
use Rattle.sym_path.specs.declared.form.Form.{Form}
use Rattle.sym_path.specs.declared.part.Part.{Part}
use Rattle.sym_path.specs.declared.path.Path.{Path}
use Rattle.sym_path.specs.declared.path.PathEnd.{PathEnd}
use Rattle.sym_path.specs.declared.path.PathEnd.TheVariants.{Next, Ended}
use Rattle.sym_path.specs.Joining.{IsSettled, Joinable}
use Rattle.sym_explore.specs.Limiting.{AreInTurn, EndsBy}
use Rattle.sym_explore.specs.declared.path_limits.Turn.{Turn}

abbrev Apart : Path → Path → Type 0
Apart p q = Joinable p q → ⊥

pub none_in_turn : (turn : Turn) → AreInTurn turn []
none_in_turn turn = record { settled = λ i j d a b. absurd (omega (arith, b)); by = All-nil (EndsBy turn) }

-- ---- one path more

later_over : (turn : Turn) (v w : List Part) (end : PathEnd) (fault : Fault) → turn.last < fault.no → EndsBy turn (record { when = v; end = end }) → Apart (record { when = v; end = end }) (record { when = w; end = Ended fault })
later_over turn v w (Next forms) fault later by = λ j. j.ends
later_over turn v w (Ended a) fault later by = λ j.
    let same : a.no ≡ fault.no = ap (λ (f : Fault). f.no) j.ends in
    absurd (omega (arith, same, later, by))

later_by : (turn : Turn) (v : List Part) (end : PathEnd) (fault : Fault) → turn.last < fault.no → EndsBy turn (record { when = v; end = end }) → EndsBy (record { last = fault.no; going = turn.going }) (record { when = v; end = end })
later_by turn v (Next forms) fault later by = by
later_by turn v (Ended a) fault later by = omega (arith, later, by)

first_going : (turn : Turn) (v w : List Part) (end : PathEnd) (forms : List Form) → turn.going ≡ false → EndsBy turn (record { when = v; end = end }) → Apart (record { when = v; end = end }) (record { when = w; end = Next forms })
first_going turn v w (Next fs) forms none by = λ j. absurd (cc)
first_going turn v w (Ended a) forms none by = λ j. j.ends

going_by : (turn : Turn) (v : List Part) (end : PathEnd) → EndsBy turn (record { when = v; end = end }) → EndsBy (record { last = turn.last; going = true }) (record { when = v; end = end })
going_by turn v (Next forms) by = refl
going_by turn v (Ended a) by = by

more_in_turn : (turn next : Turn) (before : List Path) (path : Path) → ((p : Path) → EndsBy turn p → Apart p path) → ((p : Path) → EndsBy turn p → EndsBy next p) → EndsBy next path → AreInTurn turn before → AreInTurn next (before ++ path ∷ [])
more_in_turn turn next before path apart on by h = record {
  settled = all_pairs_push Apart before path h.settled (λ k d within. apart (get_or before k d) (All-get_or (EndsBy turn) before k d within h.by));
  by = All-push (EndsBy next) before path (All-weaker (EndsBy turn) (EndsBy next) on before h.by) by;
}

-- A path that ended at a later record,
pub ended_in_turn : (turn : Turn) (before : List Path) (when : List Part) (fault : Fault) → turn.last < fault.no → AreInTurn turn before → AreInTurn (record { last = fault.no; going = turn.going }) (before ++ record { when = when; end = Ended fault } ∷ [])
ended_in_turn turn before when fault later h =
    let next : Turn = record { last = fault.no; going = turn.going } in
    more_in_turn turn next before (record { when = when; end = Ended fault })
    (λ p by. later_over turn p.when when p.end fault later by)
    (λ p by. later_by turn p.when p.end fault later by) (omega arith) h

-- and the first one that goes on.
pub going_in_turn : (turn : Turn) (before : List Path) (when : List Part) (forms : List Form) → turn.going ≡ false → AreInTurn turn before → AreInTurn (record { last = turn.last; going = true }) (before ++ record { when = when; end = Next forms } ∷ [])
going_in_turn turn before when forms none h =
    let next : Turn = record { last = turn.last; going = true } in
    more_in_turn turn next before (record { when = when; end = Next forms })
    (λ p by. first_going turn p.when when p.end forms none by)
    (λ p by. going_by turn p.when p.end by) refl h

pub settled_some : (found : Option Turn) (paths : List Path) → is_some found ≡ true → IfSome found (λ (turn : Turn). AreInTurn turn paths) → IsSettled paths
settled_some None paths e h = absurd (cc)
settled_some (Some turn) paths e h = h.settled
