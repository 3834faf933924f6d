-- What the machine's devices show of their fields.
use Rattle.std.specs.Prelude.{ℕ, Option}
use Rattle.robin_io.specs.declared.host.HostShelf.{HostShelf}
use Rattle.robin_io.specs.declared.host.HostSink.{HostSink}

-- the reader of the started file
abbrev pub reader_of : {R F D : Type 0} → HostShelf R F D → Option F
reader_of shelf = shelf.file

-- how many bytes all takes have given
abbrev pub bytes_taken : {R F D : Type 0} → HostShelf R F D → ℕ
bytes_taken shelf = shelf.taken

-- how often any file has failed
abbrev pub files_failed : {R F D : Type 0} → HostShelf R F D → ℕ
files_failed shelf = shelf.faults

-- the writer that bytes are put to
abbrev pub writer_of : {W : Type 0} → HostSink W → W
writer_of sink = sink.out

-- how often the writer has failed
abbrev pub writes_failed : {W : Type 0} → HostSink W → ℕ
writes_failed sink = sink.faults
