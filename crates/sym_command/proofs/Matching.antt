-- What `clap`'s definition makes of words, and what it refuses.
use Rattle.std.proofs.Common.{◌≡◌, ◌<◌, ◌≤◌, ◌==◌, ◌&&◌, Bool, true, false, List, [], ◌∷◌, map, inl, inr, length, Some, None, refl, sym, ap, arith, slice_index_or}
use Rattle.std.proofs.lemmas.Bool.{ne_eqb}
use Rattle.clap.specs.Words.{App, Row, Text, matches_of, fault_of, IsAmong, Kinds, HasKind, kind_of, is_simple}
use Rattle.clap.specs.Faults.{is_simple_and_free}
use Rattle.clap.specs.declared.error.Error.{Error}
use Rattle.clap.specs.declared.error.kind.ErrorKind.{ErrorKind}
use Rattle.clap.specs.declared.error.kind.ErrorKind.TheVariants as kind
use Rattle.sym_command.specs.CommandLines.{run_app, trace_app, check_app, make_app, map_app, reduce_app, join_app, matched}
use Rattle.sym_command.specs.Commands.{command_in, command_by}

pub run-free : is_simple_and_free run_app ≡ true
unfolding run_app
run-free = refl

pub trace-free : is_simple_and_free trace_app ≡ true
unfolding trace_app
trace-free = refl

pub check-free : is_simple_and_free check_app ≡ true
unfolding check_app
check-free = refl

pub make-free : is_simple_and_free make_app ≡ true
unfolding make_app
make-free = refl

pub map-free : is_simple_and_free map_app ≡ true
unfolding map_app
map-free = refl

pub reduce-free : is_simple_and_free reduce_app ≡ true
unfolding reduce_app
reduce-free = refl

pub join-free : is_simple_and_free join_app ≡ true
unfolding join_app
join-free = refl

left : (a b : Bool) → (a && b) ≡ true → a ≡ true
left true b e = refl
left false b e = cc

pub free-simple : (app : App) → is_simple_and_free app ≡ true → is_simple app ≡ true
free-simple app free = left (is_simple app) _ free

pub taken : (app : App) (words : List Text) (rows : List Row) → fault_of app words ≡ [] → rows ≡ matches_of app words → matched app words ≡ Some rows
unfolding matched
taken app words rows none is = rw (none, sym is) refl

some-kinds : (kinds : Kinds) (k : ErrorKind) → IsAmong k kinds → (length kinds == 0) ≡ false
some-kinds [] k h = absurd h
some-kinds (x ∷ xs) k h = ne_eqb (length (x ∷ xs)) 0 (λ e. omega arith)

among : (kinds : Kinds) (error : Error) → HasKind kinds error → (kind_of error ≡ kind.OutOfMemory → ⊥) → IsAmong (kind_of error) kinds
among kinds error (inl memory) other = absurd (other memory)
among kinds error (inr is) other = is

pub refused : (app : App) (words : List Text) (error : Error) → HasKind (fault_of app words) error → (kind_of error ≡ kind.OutOfMemory → ⊥) →
    matched app words ≡ None
unfolding matched
refused app words error has other =
    rw (some-kinds (fault_of app words) (kind_of error) (among (fault_of app words) error has other)) refl

pub command-first : {S : Type 0} (text : S → Text) (words : List S) (name : S) → 1 ≤ length words → name ≡ slice_index_or words 0 name →
    command_in (map text words) ≡ command_by (text name) (map text words)
unfolding command_in
command-first text [] name some is = absurd (omega arith)
command-first text (word ∷ rest) name some is = ap (λ w. command_by (text w) (text word ∷ map text rest)) (sym is)

pub command-none : {S : Type 0} (text : S → Text) (words : List S) → length words < 1 → command_in (map text words) ≡ None
unfolding command_in
command-none text [] none = refl
command-none text (word ∷ rest) none = absurd (omega arith)
