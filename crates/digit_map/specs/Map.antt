-- The digit map as a type, for definitions that hold one.
use Rattle.civil_map.specs.declared.map.CivilMap.{CivilMap}
use Rattle.digit_map.specs.declared.cells.DigitCells.{DigitCells}

abbrev pub DigitMap : Type 0
DigitMap = CivilMap DigitCells
