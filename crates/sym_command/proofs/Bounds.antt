-- The most bytes of a file of a saved run are few.
use Rattle.std.proofs.Common.{◌≡◌, refl, ap, ℕ, ◌≤◌, nat_le, lit≤, arith, Bool, true, false, ◌&&◌, cond, List, [], ◌∷◌, Option, Some, None, option_and_then}
use Rattle.std.specs.Option.{option_map}
use Rattle.std.specs.Str.{bytes_eq}
use Rattle.std.proofs.lemmas.Bool.Decides.{nat_tests}
use Rattle.clap.specs.Words.{Row, first_of}
use Rattle.sym_base.specs.declared.limits.TheConstants as limit
use Rattle.sym_command.specs.declared.arguments.TheConstants as own
use Rattle.sym_command.specs.declared.numbers.NumberOption.{NumberOption}
use Rattle.sym_command.specs.declared.numbers.NumberRange.{NumberRange}
use Rattle.sym_command.specs.CommandLines.{join_app, matched, reduce_app}
use Rattle.sym_command.specs.Commands.{Asked, Form, Run, Trace, Check, Make, Join, Map, Reduce, Command, Runs, Traces, Checks, Makes, Maps, Reduces, Joins, command_in, command_of, files_found, form_found, handed, is_handed, map_of, make_of, check_of, trace_of, run_of, number_found, join_found, join_of, reduce_found, reduce_of}
use Rattle.sym_command.specs.Numbers.{number_of, option_number, ranged}

-- ---- the number of an option
both : (a b : Bool) → (a && b) ≡ true → (a ≡ true) × (b ≡ true)
both true b e = (refl, e)
both false b e = cc

up_to : (n m : ℕ) → nat_le n m ≡ true → n ≤ m
up_to n m e = grind (arith, nat_tests)

within : (range : NumberRange) (number n : ℕ) (b : Bool) → (nat_le range.least number && nat_le number range.most) ≡ b → cond b (Some number) None ≡ Some n → n ≤ range.most
within range number n true test e =
    let same : number ≡ n = cc in
    let most = up_to number range.most (both (nat_le range.least number) (nat_le number range.most) test).1 in omega (arith, same, most)
within range number n false test e = absurd (cc)

found_within : (range : NumberRange) (o : Option ℕ) (n : ℕ) → option_and_then (ranged range) o ≡ Some n → n ≤ range.most
found_within range None n e = absurd (cc)
found_within range (Some number) n e = within range number n (nat_le range.least number && nat_le number range.most) refl e

option_within : (option : NumberOption) (o : Option (List ℕ)) (n : ℕ) → option.default ≤ option.range.most → option_number option o ≡ Some n → n ≤ option.range.most
option_within option None n few e = let same : option.default ≡ n = cc in omega (arith, same, few)
option_within option (Some text) n few e = found_within option.range (number_of text) n e

-- ---- what was found
size_of : (size : Option ℕ) (script : Option (List ℕ)) (files : Option (List (List ℕ))) (form : List ℕ) (reduce : Reduce) (most : ℕ)
    → ((n : ℕ) → size ≡ Some n → n ≤ most)
    → option_and_then (λ (max_bytes : ℕ). option_and_then (λ (name : List ℕ). option_and_then (λ (names : List (List ℕ)). Some (record { form = form; max_bytes = max_bytes; script = name; files = names })) files) script) size ≡ Some reduce
    → reduce.max_bytes ≤ most
size_of None script files form reduce most few e = absurd (cc)
size_of (Some n) None files form reduce most few e = absurd (cc)
size_of (Some n) (Some name) None form reduce most few e = absurd (cc)
size_of (Some n) (Some name) (Some names) form reduce most few e =
    let made : Reduce = record { form = form; max_bytes = n; script = name; files = names } in
    let same : made ≡ reduce = cc in
    let size : n ≡ reduce.max_bytes = ap (λ (r : Reduce). r.max_bytes) same in
    let bound = few n refl in omega (arith, size, bound)

found_few : (rows : List Row) (reduce : Reduce) → reduce_found rows ≡ Some reduce → reduce.max_bytes ≤ limit.FILE_MAX
unfolding reduce_found
found_few rows reduce e =
    size_of (number_found own.MAX_BYTES own.MAX_BYTES_NAME.now rows) (first_of own.SCRIPT_NAME.now rows) (files_found rows) (form_found rows) reduce limit.FILE_MAX
    (λ n is. option_within own.MAX_BYTES (first_of own.MAX_BYTES_NAME.now rows) n (lit≤ tt) is) e

rows_few : (found : Option (List Row)) (reduce : Reduce) → option_and_then reduce_found found ≡ Some reduce → reduce.max_bytes ≤ limit.FILE_MAX
rows_few None reduce e = absurd (cc)
rows_few (Some rows) reduce e = found_few rows reduce e

words_few : (words : List (List ℕ)) (reduce : Reduce) → reduce_of words ≡ Some reduce → reduce.max_bytes ≤ limit.FILE_MAX
unfolding reduce_of
words_few words reduce e = rows_few (matched reduce_app words) reduce e

join_size : (limits size : Option ℕ) (script : Option (List ℕ)) (files : Option (List (List ℕ))) (join : Join) (most : ℕ)
    → ((n : ℕ) → size ≡ Some n → n ≤ most)
    → option_and_then (λ (limit : ℕ). option_and_then (λ (max_bytes : ℕ). option_and_then (λ (name : List ℕ). option_and_then (λ (names : List (List ℕ)). Some (record { limit = limit; max_bytes = max_bytes; script = name; files = names })) files) script) size) limits ≡ Some join
    → join.max_bytes ≤ most
join_size None size script files join most few e = absurd (cc)
join_size (Some limit) None script files join most few e = absurd (cc)
join_size (Some limit) (Some n) None files join most few e = absurd (cc)
join_size (Some limit) (Some n) (Some name) None join most few e = absurd (cc)
join_size (Some limit) (Some n) (Some name) (Some names) join most few e =
    let made : Join = record { limit = limit; max_bytes = n; script = name; files = names } in
    let same : made ≡ join = cc in
    let size : n ≡ join.max_bytes = ap (λ (j : Join). j.max_bytes) same in
    let bound = few n refl in omega (arith, size, bound)

join_few : (rows : List Row) (join : Join) → join_found rows ≡ Some join → join.max_bytes ≤ limit.FILE_MAX
unfolding join_found
join_few rows join e =
    join_size (number_found own.LIMITS own.LIMIT_NAME.now rows) (number_found own.MAX_BYTES own.MAX_BYTES_NAME.now rows) (first_of own.SCRIPT_NAME.now rows) (files_found rows) join limit.FILE_MAX
    (λ n is. option_within own.MAX_BYTES (first_of own.MAX_BYTES_NAME.now rows) n (lit≤ tt) is) e

join_rows_few : (found : Option (List Row)) (join : Join) → option_and_then join_found found ≡ Some join → join.max_bytes ≤ limit.FILE_MAX
join_rows_few None join e = absurd (cc)
join_rows_few (Some rows) join e = join_few rows join e

join_words_few : (words : List (List ℕ)) (join : Join) → join_of words ≡ Some join → join.max_bytes ≤ limit.FILE_MAX
unfolding join_of
join_words_few words join e = join_rows_few (matched join_app words) join e

-- ---- the command
module _ (reduce : Reduce) where
  other_run : (o : Option Run) → option_map (λ run. Runs run) o ≡ Some (Reduces reduce) → ⊥
  other_run None e = cc
  other_run (Some run) e = cc

  other_trace : (o : Option Trace) → option_map (λ trace. Traces trace) o ≡ Some (Reduces reduce) → ⊥
  other_trace None e = cc
  other_trace (Some trace) e = cc

  other_check : (o : Option Check) → option_map (λ check. Checks check) o ≡ Some (Reduces reduce) → ⊥
  other_check None e = cc
  other_check (Some check) e = cc

  other_make : (o : Option Make) → option_map (λ make. Makes make) o ≡ Some (Reduces reduce) → ⊥
  other_make None e = cc
  other_make (Some make) e = cc

  other_map : (o : Option Map) → option_map (λ part. Maps part) o ≡ Some (Reduces reduce) → ⊥
  other_map None e = cc
  other_map (Some part) e = cc

  this_one : (o : Option Reduce) → option_map (λ reduce. Reduces reduce) o ≡ Some (Reduces reduce) → o ≡ Some reduce
  this_one None e = absurd (cc)
  this_one (Some found) e = let same : found ≡ reduce = cc in ap Some same

  other_join : (o : Option Join) → option_map (λ join. Joins join) o ≡ Some (Reduces reduce) → ⊥
  other_join None e = cc
  other_join (Some join) e = cc

  named : (a t b c d f g : Bool) (run : Option Run) (trace : Option Trace) (check : Option Check) (make : Option Make) (part : Option Map) (found : Option Reduce) (join : Option Join)
      → cond a (option_map (λ run. Runs run) run) (cond t (option_map (λ trace. Traces trace) trace) (cond b (option_map (λ check. Checks check) check)
      (cond c (option_map (λ make. Makes make) make) (cond d (option_map (λ part. Maps part) part) (cond f (option_map (λ reduce. Reduces reduce) found) (cond g (option_map (λ join. Joins join) join) None))))))
      ≡ Some (Reduces reduce) → found ≡ Some reduce
  named true t b c d f g run trace check make part found join e = absurd (other_run run e)
  named false true b c d f g run trace check make part found join e = absurd (other_trace trace e)
  named false false true c d f g run trace check make part found join e = absurd (other_check check e)
  named false false false true d f g run trace check make part found join e = absurd (other_make make e)
  named false false false false true f g run trace check make part found join e = absurd (other_map part e)
  named false false false false false true g run trace check make part found join e = this_one found e
  named false false false false false false true run trace check make part found join e = absurd (other_join join e)
  named false false false false false false false run trace check make part found join e = absurd (cc)

  in_words : (words : List (List ℕ)) → command_in words ≡ Some (Reduces reduce) → reduce.max_bytes ≤ limit.FILE_MAX
  unfolding command_in
  in_words [] e = absurd (cc)
  in_words (name ∷ rest) e =
      let words = name ∷ rest in
      words_few words reduce
      (named (bytes_eq name own.RUN_NAME.now) (bytes_eq name own.TRACE_NAME.now) (bytes_eq name own.CHECK_NAME.now) (bytes_eq name own.MAKE_NAME.now) (bytes_eq name own.MAP_NAME.now) (bytes_eq name own.REDUCE_NAME.now) (bytes_eq name own.JOIN_NAME.now)
      (run_of words) (trace_of words) (check_of words) (make_of words) (map_of words) (reduce_of words) (join_of words) e)

  given : (forms : List Form) (command : Command) (b : Bool) → cond b (Some command) None ≡ Some (Reduces reduce) → command ≡ Reduces reduce
  given forms command true e = cc
  given forms command false e = absurd (cc)

  by_forms : (forms : List Form) (o : Option Command) → handed forms o ≡ Some (Reduces reduce) → o ≡ Some (Reduces reduce)
  by_forms forms None e = absurd (cc)
  by_forms forms (Some command) e = ap Some (given forms command (is_handed forms command) e)

  -- The size is in its range.
  pub asked_few : (asked : Asked) → command_of asked ≡ Some (Reduces reduce) → reduce.max_bytes ≤ limit.FILE_MAX
  asked_few asked e = in_words asked.words (by_forms asked.forms (command_in asked.words) e)

module _ (join : Join) where
  run_joins : (o : Option Run) → option_map (λ run. Runs run) o ≡ Some (Joins join) → ⊥
  run_joins None e = cc
  run_joins (Some run) e = cc

  trace_joins : (o : Option Trace) → option_map (λ trace. Traces trace) o ≡ Some (Joins join) → ⊥
  trace_joins None e = cc
  trace_joins (Some trace) e = cc

  check_joins : (o : Option Check) → option_map (λ check. Checks check) o ≡ Some (Joins join) → ⊥
  check_joins None e = cc
  check_joins (Some check) e = cc

  make_joins : (o : Option Make) → option_map (λ make. Makes make) o ≡ Some (Joins join) → ⊥
  make_joins None e = cc
  make_joins (Some make) e = cc

  map_joins : (o : Option Map) → option_map (λ part. Maps part) o ≡ Some (Joins join) → ⊥
  map_joins None e = cc
  map_joins (Some part) e = cc

  reduce_joins : (o : Option Reduce) → option_map (λ reduce. Reduces reduce) o ≡ Some (Joins join) → ⊥
  reduce_joins None e = cc
  reduce_joins (Some reduce) e = cc

  this_join : (o : Option Join) → option_map (λ join. Joins join) o ≡ Some (Joins join) → o ≡ Some join
  this_join None e = absurd (cc)
  this_join (Some found) e = let same : found ≡ join = cc in ap Some same

  join_named : (a t b c d f g : Bool) (run : Option Run) (trace : Option Trace) (check : Option Check) (make : Option Make) (part : Option Map) (reduce : Option Reduce) (found : Option Join)
      → cond a (option_map (λ run. Runs run) run) (cond t (option_map (λ trace. Traces trace) trace) (cond b (option_map (λ check. Checks check) check)
      (cond c (option_map (λ make. Makes make) make) (cond d (option_map (λ part. Maps part) part) (cond f (option_map (λ reduce. Reduces reduce) reduce) (cond g (option_map (λ join. Joins join) found) None))))))
      ≡ Some (Joins join) → found ≡ Some join
  join_named true t b c d f g run trace check make part reduce found e = absurd (run_joins run e)
  join_named false true b c d f g run trace check make part reduce found e = absurd (trace_joins trace e)
  join_named false false true c d f g run trace check make part reduce found e = absurd (check_joins check e)
  join_named false false false true d f g run trace check make part reduce found e = absurd (make_joins make e)
  join_named false false false false true f g run trace check make part reduce found e = absurd (map_joins part e)
  join_named false false false false false true g run trace check make part reduce found e = absurd (reduce_joins reduce e)
  join_named false false false false false false true run trace check make part reduce found e = this_join found e
  join_named false false false false false false false run trace check make part reduce found e = absurd (cc)

  join_in_words : (words : List (List ℕ)) → command_in words ≡ Some (Joins join) → join.max_bytes ≤ limit.FILE_MAX
  unfolding command_in
  join_in_words [] e = absurd (cc)
  join_in_words (name ∷ rest) e =
      let words = name ∷ rest in
      join_words_few words join
      (join_named (bytes_eq name own.RUN_NAME.now) (bytes_eq name own.TRACE_NAME.now) (bytes_eq name own.CHECK_NAME.now) (bytes_eq name own.MAKE_NAME.now) (bytes_eq name own.MAP_NAME.now) (bytes_eq name own.REDUCE_NAME.now) (bytes_eq name own.JOIN_NAME.now)
      (run_of words) (trace_of words) (check_of words) (make_of words) (map_of words) (reduce_of words) (join_of words) e)

  join_given : (forms : List Form) (command : Command) (b : Bool) → cond b (Some command) None ≡ Some (Joins join) → command ≡ Joins join
  join_given forms command true e = cc
  join_given forms command false e = absurd (cc)

  join_by_forms : (forms : List Form) (o : Option Command) → handed forms o ≡ Some (Joins join) → o ≡ Some (Joins join)
  join_by_forms forms None e = absurd (cc)
  join_by_forms forms (Some command) e = ap Some (join_given forms command (is_handed forms command) e)

  -- The size is in its range.
  pub joined_few : (asked : Asked) → command_of asked ≡ Some (Joins join) → join.max_bytes ≤ limit.FILE_MAX
  joined_few asked e = join_in_words asked.words (join_by_forms asked.forms (command_in asked.words) e)
