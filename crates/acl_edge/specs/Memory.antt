-- A source and a sink in memory.
use Rattle.std.specs.Prelude.{ℕ, ◌+◌, ◌-◌, List, length, drop, min, Bool, ◌==◌, ◌||◌, ◌&&◌, nat_lt}
use Rattle.std.specs.List.{list_any}
use Rattle.acl_edge.specs.Outside.{last_count}
use Rattle.acl_edge.specs.declared.mem_source.MemSource.{MemSource}
use Rattle.acl_edge.specs.declared.mem_sink.MemSink.{MemSink}

-- the number of the call after so many, the first being 1
abbrev pub next_call : ℕ → ℕ
next_call calls = min (calls + 1) last_count

-- the call of this number is to fail
abbrev pub is_among : List ℕ → ℕ → Bool
is_among calls n = list_any (λ k. k == n) calls

-- the bytes still to come
abbrev pub rest_of : MemSource → List ℕ
rest_of s = drop s.at s.bytes.items

abbrev pub source_calls : MemSource → ℕ
source_calls s = s.calls

abbrev pub source_faults : MemSource → ℕ
source_faults s = s.faults

-- how many bytes a read gives at most
abbrev pub source_piece : MemSource → ℕ
source_piece s = s.piece

-- the numbers of the calls that are to fail
abbrev pub source_fail : MemSource → List ℕ
source_fail s = s.fail.items

abbrev pub written_to : MemSink → List ℕ
written_to s = s.bytes.items

abbrev pub sink_calls : MemSink → ℕ
sink_calls s = s.calls

abbrev pub sink_faults : MemSink → ℕ
sink_faults s = s.faults

-- how many bytes it takes in all
abbrev pub sink_room : MemSink → ℕ
sink_room s = s.room

-- the numbers of the calls that are to fail
abbrev pub sink_fail : MemSink → List ℕ
sink_fail s = s.fail.items

abbrev pub room_left : MemSink → ℕ
room_left s = sink_room s - length (written_to s)

-- the next write, of a piece of this length, fails: its number is among those that are to, or the piece finds no room left
abbrev pub refuses : MemSink → ℕ → Bool
refuses s n = is_among (sink_fail s) (next_call (sink_calls s)) || (nat_lt 0 n && (room_left s == 0))
