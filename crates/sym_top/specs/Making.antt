-- The log that `make` makes. Its numbers are those of the sample `rand` of the C standard, a linear
-- congruential generator that a seed begins; what a record is made of is this project's profile.
use Rattle.std.specs.Prelude.{ℕ, zero, suc, ◌+◌, ◌*◌, ◌/◌, ◌%◌, List, ◌++◌, codes}
use Rattle.std.specs.Fmt.{decimal}
use Rattle.std.specs.List.{flat_map, range_with_len}

-- The generator's state after a state.
abbrev pub next_state : ℕ → ℕ
next_state state = (state * 1103515245 + 12345) % 2147483648

-- Its state at a record, counted from 1; before the first record it is the seed.
abbrev pub state_at : ℕ → ℕ → ℕ
state_at seed zero = seed
state_at seed (suc record_no) = next_state (state_at seed record_no)

-- The number that is drawn for a record: the upper bits of the state there.
abbrev pub draw_at : ℕ → ℕ → ℕ
draw_at seed record_no = state_at seed record_no / 65536

-- The time of a record: 0 to 7 after that of the record before it, and of the first after 0.
abbrev pub time_at : ℕ → ℕ → ℕ
time_at seed zero = 0
time_at seed (suc record_no) = time_at seed record_no + draw_at seed (suc record_no) % 8

-- The number of its user, 0 to 9.
abbrev pub user_at : ℕ → ℕ → ℕ
user_at seed record_no = (draw_at seed record_no / 8) % 10

-- A line of this time and this user.
abbrev pub made_line : ℕ → ℕ → List ℕ
made_line time user = decimal time ++ (codes ",u" ++ (decimal user ++ codes "\n"))

-- The line of a record.
abbrev pub line_at : ℕ → ℕ → List ℕ
line_at seed record_no = made_line (time_at seed record_no) (user_at seed record_no)

-- The log of so many records: a header, and a line for each.
abbrev pub made_file : ℕ → ℕ → List ℕ
made_file records seed = codes "ts,user\n" ++ flat_map (line_at seed) (range_with_len 1 records)

-- The script that is run over the log. A session of a user ends where more than 30 passes without a
-- record; its first column counts these.
unfoldable pub made_script : List ℕ
made_script =
    codes "field ts: num;\n"
    ++ codes "field user: word;\n"
    ++ codes "group user;\n"
    ++ codes "state last: hold(num = 0);\n"
    ++ codes "state n: int [0..1000] = 0;\n"
    ++ codes "state done: nums [0..1000];\n"
    ++ codes "test gap(h: num, t: num) = t - h > 30;\n"
    ++ codes "update {\n"
    ++ codes "  if gap(last, ts) { push done n; n = 1; } else { n = n + 1; }\n"
    ++ codes "  keep last(ts);\n"
    ++ codes "}\n"
    ++ codes "report { sessions = count(done); open = n; longest = max(done); }\n"
