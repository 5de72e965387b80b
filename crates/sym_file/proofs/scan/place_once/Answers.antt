use Rattle.std.proofs.Common.{◌≡◌, ◌∙◌, ◌∷◌, ◌++◌, [], List}
use Rattle.std.specs.Map.{lookup}
use Rattle.sym_check.specs.Meaning.Groups.{is_key}
use Rattle.sym_file.specs.Places.{ChainPlace, placed, places_of}
use Rattle.sym_file.proofs.Marks.{marked_new, marked_there, seen_is}
use Rattle.sym_file.proofs.Taking.{not_found}
use Rattle.sym_file.proofs.scan.place_once.Goals as goal

pub returns-in_ok-push_at-in-Some : goal.returns-in_ok-push_at-in-Some
returns-in_ok-push_at-in-Some c = λ seen is.
    let groups = c.args.groups.now in
    let marks = c.args.marks.now.items in
    let at = c.in-Some.ensures.index in
    let new = c.push_at.new.self in
    let value : List ChainPlace = places_of (lookup (is_key c.args.key) groups) ++ c.args.place ∷ [] in
    let places : new ≡ placed groups (c.args.key, c.args.place) = c.in_ok-push_at-in-Some.ensures c.args.key at in
    let fresh = seen_is seen groups marks is c.args.key c.in-Some.index at c.index.result.now c.index.ensures ∙ c.if-index.false in
    (fresh, places, marked_there seen groups marks is c.args.key value new places c.in-Some.index at c.in-Some.ensures.distinct fresh)

pub returns-in_ok-begin-in-None : goal.returns-in_ok-begin-in-None
returns-in_ok-begin-in-None c = λ seen is.
    let groups = c.args.groups.now in
    let new = c.begin.new.self in
    let none = not_found (lookup (is_key c.args.key) groups) c.in-None.ensures.found in
    let value : List ChainPlace = places_of (lookup (is_key c.args.key) groups) ++ c.args.place ∷ [] in
    let places : new ≡ placed groups (c.args.key, c.args.place) = c.in_ok-begin-in-None.ensures in
    let last = marked_new seen groups c.args.marks.now.items is c.args.key value new places c.push.new.self.items none c.in_ok-push-in-None.ensures.items in
    (last.0, places, last.1)
