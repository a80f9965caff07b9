-- Document 01, "Sizes" and "The group": each limit of the format, named once, and the ranges they make.
-- Assumes nothing.
use Rattle.std.specs.Prelude.{ℕ, ◌+◌, ◌*◌, ◌-◌, Bool, ◌&&◌, leb}
use Rattle.numbers.specs.Numbers.{between}

-- "Rig groups may be smaller: L is 64 to 126,632."
abbrev pub least_size : ℕ
least_size = 64

-- "L is the group size. The standard's is 126,632."
abbrev pub standard_size : ℕ
standard_size = 126632

-- "The 32-byte Group Information Table closes each group."
abbrev pub information_length : ℕ
information_length = 32

-- "Entry k is the four bytes from L − 32 − 4k."
abbrev pub entry_length : ℕ
entry_length = 4

-- "A record is 1 to 16,777,215 bytes."
abbrev pub longest_record : ℕ
longest_record = 16777215

-- "Group numbers are 1 to 65,535."
abbrev pub last_number : ℕ
last_number = 65535

-- Change request 2026-06, "skip counts 40 to 43": the greatest count of a skip that owes a total. At 44 the total has room.
abbrev pub most_owing : ℕ
most_owing = 43

-- "L is 64 to 126,632."
abbrev pub size_kept : ℕ → Bool
size_kept size = between least_size size standard_size

-- "A record is 1 to 16,777,215 bytes."
abbrev pub record_kept : ℕ → Bool
record_kept n = between 1 n longest_record

-- "Group numbers are 1 to 65,535."
abbrev pub number_kept : ℕ → Bool
number_kept number = between 1 number last_number

-- "Entry count n: at least 1, and 32 + 4n at most L."
abbrev pub entries_kept : ℕ → ℕ → Bool
entries_kept size n = leb 1 n && leb (information_length + entry_length * n) size

-- "Entry k (k from 1) is the four bytes from L − 32 − 4k." For k = n it is where the table of n entries begins.
abbrev pub entry_offset : ℕ → ℕ → ℕ
entry_offset size k = size - information_length - entry_length * k
