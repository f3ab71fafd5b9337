use Rattle.std.proofs.Common.{refl}
use Rattle.tables.proofs.PlaceLaws.{place_sound, place_alike}
use Rattle.shelf.specs.Places.{cells_of}
use Rattle.shelf.proofs.Refining.{reader_takes, reader_states, missing_reads}
use Rattle.shelf.proofs.laws.place_reader.Goals as goal

pub returns : goal.returns
returns g c s p =
    let same = g.S.Symbol.same in
    let d = cells_of s p in
    record {
      sound = place_sound same d.symbols d.followers d.sets.first d.sets.last d.sets.nullable;
      alike = place_alike same d.symbols d.followers d.sets.first d.sets.last d.sets.nullable g.S.Symbol.laws;
      takes = reader_takes same g.S.Symbol.laws s p d refl;
      states = reader_states same s p d refl;
      missing = missing_reads same s p;
    }
