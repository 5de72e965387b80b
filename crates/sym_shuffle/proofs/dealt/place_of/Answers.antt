use Rattle.std.proofs.Common.{◌≡◌, ◌+◌, ◌++◌, ℕ, Some, Result, Ok, Err, OnOk}
use Rattle.std.specs.Prelude.{slice_get}
use Rattle.std.specs.Map.{keys_of}
use Rattle.std.proofs.lemmas.Result.{IfOk-weaker}
use Rattle.sym_shuffle.proofs.DealtKeys.{new_beside, other_stays, place_beside}
use Rattle.sym_shuffle.proofs.dealt.place_of.Goals as goal

ok_as_is : {T E P : Type 0} (r : Result T E) → P → OnOk r P
ok_as_is (Ok x) h = h
ok_as_is (Err e) h = tt

pub returns-in-Some-clause-keys : goal.returns-in-Some-clause-keys
returns-in-Some-clause-keys c =
    other_stays (keys_of c.args.groups.now) (keys_of c.args.new.now.entries) c.args.key.now c.in-Some.place c.in-Some.ensures.index

pub returns-in_ok-index_in-in-None-clause-place : goal.returns-in_ok-index_in-in-None-clause-place
returns-in_ok-index_in-in-None-clause-place c =
    let index = c.in_ok-index_in-in-None.field-0 in
    let new = keys_of c.index_in.new.new.entries in
    IfOk-weaker c.place_after.result (λ (place : ℕ). place ≡ c.len.result + index)
    (λ (place : ℕ). slice_get (keys_of c.args.groups.now ++ new) place ≡ Some c.args.key.now)
    (λ place sum. place_beside c.args.groups.now new c.args.key.now c.len.result index place c.in_ok-index_in-in-None.ensures.index c.len.ensures.len sum)
    c.place_after.ensures

pub returns-in_ok-index_in-in-None-clause-keys : goal.returns-in_ok-index_in-in-None-clause-keys
returns-in_ok-index_in-in-None-clause-keys c =
    ok_as_is c.place_after.result
    (new_beside c.args.groups.now (keys_of c.args.new.now.entries) (keys_of c.index_in.new.new.entries) c.args.key.now c.in-None.ensures.found c.in_ok-index_in-in-None.ensures.keys)
