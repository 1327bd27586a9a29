-- The byte map as a type, for definitions that hold one.
use Rattle.civil_map.specs.declared.map.CivilMap.{CivilMap}
use Rattle.byte_map.specs.declared.cells.ByteCells.{ByteCells}

abbrev pub ByteMap : Type 0
ByteMap = CivilMap ByteCells
