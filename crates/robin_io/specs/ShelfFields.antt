-- What a store in memory shows of its fields.
use Rattle.std.specs.Prelude.{◌≤◌, ⊤, map, drop, length, slice_get, string_bytes}
use Rattle.std.specs.Prelude.{option_map, option_and_then, MatchOption, IsSomeAnd}
use Rattle.robin_io.specs.ShelfView.{ShelfView}
use Rattle.robin_io.specs.Files.{file_view}
use Rattle.robin_io.specs.declared.mem_shelf.MemShelf.TheInside.{Inside}

abbrev pub shelf_view : Inside → ShelfView
shelf_view s = record {
  files = map file_view s.files.items;
  started = option_and_then (λ p. option_map (λ f. string_bytes f.name) (slice_get s.files.items p.file)) s.started;
  left = option_and_then (λ p. option_map (λ f. drop p.at f.bytes.items) (slice_get s.files.items p.file)) s.started;
  taken = s.taken;
  other_faults = s.other_faults;
  plan = s.plan.failing.items;
  calls = s.plan.calls;
}

-- the started place is one of a file
abbrev pub IsWithinFile : Inside → Type 0
IsWithinFile s =
    MatchOption s.started ⊤ (λ p. IsSomeAnd (slice_get s.files.items p.file) (λ f. p.at ≤ length f.bytes.items))
