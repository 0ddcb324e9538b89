use Rattle.std.proofs.Common.{◌≡◌, ◌+◌, ◌++◌, List, length, map, take, vec_len, vec_capacity, slice_get, Some}
use Rattle.sd_epoch.specs.Table.{Listing}
use Rattle.sd_record.specs.Rows.{rows_in}
use Rattle.sd_record.specs.Placed.{row_at}
use Rattle.sd_record.proofs.placed.place_rows.Given as goal

abbrev pub invariant-loop-row : goal.invariant-loop-row
invariant-loop-row l = record {
  rows : (tables : List Listing) → slice_get tables l.index ≡ Some l.table → map (row_at tables) l.places.items ≡ map (row_at tables) l.fn.places.items ++ take l.row (map Some (rows_in l.table));
  all : l.row-end ≡ length l.table.listed;
  len : vec_len l.places ≡ vec_len l.fn.places + l.row;
  capacity : vec_capacity l.places ≡ vec_capacity l.fn.places;
}
