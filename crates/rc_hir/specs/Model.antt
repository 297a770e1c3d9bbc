-- The types of the graph and of its environment, by one import.
use Rattle.rc_hir.specs.declared.environment.Config.{Config as TheConfig}
use Rattle.rc_hir.specs.declared.environment.Environment.{Environment as TheEnvironment}
use Rattle.rc_hir.specs.declared.environment.Identifier.{Identifier as TheIdentifier}
use Rattle.rc_hir.specs.declared.environment.IdentifierName.{IdentifierName as TheIdentifierName}
use Rattle.rc_hir.specs.declared.fault.Fault.{Fault as TheFault}
use Rattle.rc_hir.specs.declared.fault.Rule.{Rule as TheRule}
use Rattle.rc_hir.specs.declared.fault.TableName.{TableName as TheTableName}
use Rattle.rc_hir.specs.declared.function.BasicBlock.{BasicBlock as TheBasicBlock}
use Rattle.rc_hir.specs.declared.function.Hir.{Hir as TheHir}
use Rattle.rc_hir.specs.declared.function.HirFunction.{HirFunction as TheHirFunction}
use Rattle.rc_hir.specs.declared.function.Instruction.{Instruction as TheInstruction}
use Rattle.rc_hir.specs.declared.instruction.InstructionValue.{InstructionValue as TheInstructionValue}
use Rattle.rc_hir.specs.declared.instruction.JsxAttribute.{JsxAttribute as TheJsxAttribute}
use Rattle.rc_hir.specs.declared.instruction.JsxTag.{JsxTag as TheJsxTag}
use Rattle.rc_hir.specs.declared.instruction.LogicalOperator.{LogicalOperator as TheLogicalOperator}
use Rattle.rc_hir.specs.declared.instruction.LoweredFunction.{LoweredFunction as TheLoweredFunction}
use Rattle.rc_hir.specs.declared.instruction.NonLocalBinding.{NonLocalBinding as TheNonLocalBinding}
use Rattle.rc_hir.specs.declared.instruction.PrimitiveValue.{PrimitiveValue as ThePrimitiveValue}
use Rattle.rc_hir.specs.declared.names.Lengths.{Lengths as TheLengths}
use Rattle.rc_hir.specs.declared.pattern.ArrayElement.{ArrayElement as TheArrayElement}
use Rattle.rc_hir.specs.declared.pattern.ArrayPatternElement.{ArrayPatternElement as TheArrayPatternElement}
use Rattle.rc_hir.specs.declared.pattern.InstructionKind.{InstructionKind as TheInstructionKind}
use Rattle.rc_hir.specs.declared.pattern.LValue.{LValue as TheLValue}
use Rattle.rc_hir.specs.declared.pattern.LValuePattern.{LValuePattern as TheLValuePattern}
use Rattle.rc_hir.specs.declared.pattern.ObjectProperty.{ObjectProperty as TheObjectProperty}
use Rattle.rc_hir.specs.declared.pattern.ObjectPropertyKey.{ObjectPropertyKey as TheObjectPropertyKey}
use Rattle.rc_hir.specs.declared.pattern.ObjectPropertyOrSpread.{ObjectPropertyOrSpread as TheObjectPropertyOrSpread}
use Rattle.rc_hir.specs.declared.pattern.Pattern.{Pattern as ThePattern}
use Rattle.rc_hir.specs.declared.pattern.PropertyLiteral.{PropertyLiteral as ThePropertyLiteral}
use Rattle.rc_hir.specs.declared.place.Effect.{Effect as TheEffect}
use Rattle.rc_hir.specs.declared.place.ParamPattern.{ParamPattern as TheParamPattern}
use Rattle.rc_hir.specs.declared.place.Place.{Place as ThePlace}
use Rattle.rc_hir.specs.declared.place.PlaceOrSpread.{PlaceOrSpread as ThePlaceOrSpread}
use Rattle.rc_hir.specs.declared.place.SpreadPattern.{SpreadPattern as TheSpreadPattern}
use Rattle.rc_hir.specs.declared.scope.DeclarationEntry.{DeclarationEntry as TheDeclarationEntry}
use Rattle.rc_hir.specs.declared.scope.DependencyPathEntry.{DependencyPathEntry as TheDependencyPathEntry}
use Rattle.rc_hir.specs.declared.scope.MutableRange.{MutableRange as TheMutableRange}
use Rattle.rc_hir.specs.declared.scope.ReactiveScope.{ReactiveScope as TheReactiveScope}
use Rattle.rc_hir.specs.declared.scope.ReactiveScopeDeclaration.{ReactiveScopeDeclaration as TheReactiveScopeDeclaration}
use Rattle.rc_hir.specs.declared.scope.ReactiveScopeDependency.{ReactiveScopeDependency as TheReactiveScopeDependency}
use Rattle.rc_hir.specs.declared.scope.ReactiveScopeEarlyReturn.{ReactiveScopeEarlyReturn as TheReactiveScopeEarlyReturn}
use Rattle.rc_hir.specs.declared.terminal.Case.{Case as TheCase}
use Rattle.rc_hir.specs.declared.terminal.GotoVariant.{GotoVariant as TheGotoVariant}
use Rattle.rc_hir.specs.declared.terminal.Terminal.{Terminal as TheTerminal}
use Rattle.rc_hir.specs.declared.types.HirType.{HirType as TheHirType}
use Rattle.rc_hir.specs.declared.types.Shape.{Shape as TheShape}
use Rattle.rc_hir.specs.declared.types.ShapeRow.{ShapeRow as TheShapeRow}

abbrev pub Config : Type 0
Config = TheConfig

abbrev pub Environment : Type 0
Environment = TheEnvironment

abbrev pub Identifier : Type 0
Identifier = TheIdentifier

abbrev pub IdentifierName : Type 0
IdentifierName = TheIdentifierName

abbrev pub Fault : Type 0
Fault = TheFault

abbrev pub Rule : Type 0
Rule = TheRule

abbrev pub TableName : Type 0
TableName = TheTableName

abbrev pub BasicBlock : Type 0
BasicBlock = TheBasicBlock

abbrev pub Hir : Type 0
Hir = TheHir

abbrev pub HirFunction : Type 0
HirFunction = TheHirFunction

abbrev pub Instruction : Type 0
Instruction = TheInstruction

abbrev pub InstructionValue : Type 0
InstructionValue = TheInstructionValue

abbrev pub JsxAttribute : Type 0
JsxAttribute = TheJsxAttribute

abbrev pub JsxTag : Type 0
JsxTag = TheJsxTag

abbrev pub LogicalOperator : Type 0
LogicalOperator = TheLogicalOperator

abbrev pub LoweredFunction : Type 0
LoweredFunction = TheLoweredFunction

abbrev pub NonLocalBinding : Type 0
NonLocalBinding = TheNonLocalBinding

abbrev pub PrimitiveValue : Type 0
PrimitiveValue = ThePrimitiveValue

abbrev pub Lengths : Type 0
Lengths = TheLengths

abbrev pub ArrayElement : Type 0
ArrayElement = TheArrayElement

abbrev pub ArrayPatternElement : Type 0
ArrayPatternElement = TheArrayPatternElement

abbrev pub InstructionKind : Type 0
InstructionKind = TheInstructionKind

abbrev pub LValue : Type 0
LValue = TheLValue

abbrev pub LValuePattern : Type 0
LValuePattern = TheLValuePattern

abbrev pub ObjectProperty : Type 0
ObjectProperty = TheObjectProperty

abbrev pub ObjectPropertyKey : Type 0
ObjectPropertyKey = TheObjectPropertyKey

abbrev pub ObjectPropertyOrSpread : Type 0
ObjectPropertyOrSpread = TheObjectPropertyOrSpread

abbrev pub Pattern : Type 0
Pattern = ThePattern

abbrev pub PropertyLiteral : Type 0
PropertyLiteral = ThePropertyLiteral

abbrev pub Effect : Type 0
Effect = TheEffect

abbrev pub ParamPattern : Type 0
ParamPattern = TheParamPattern

abbrev pub Place : Type 0
Place = ThePlace

abbrev pub PlaceOrSpread : Type 0
PlaceOrSpread = ThePlaceOrSpread

abbrev pub SpreadPattern : Type 0
SpreadPattern = TheSpreadPattern

abbrev pub DeclarationEntry : Type 0
DeclarationEntry = TheDeclarationEntry

abbrev pub DependencyPathEntry : Type 0
DependencyPathEntry = TheDependencyPathEntry

abbrev pub MutableRange : Type 0
MutableRange = TheMutableRange

abbrev pub ReactiveScope : Type 0
ReactiveScope = TheReactiveScope

abbrev pub ReactiveScopeDeclaration : Type 0
ReactiveScopeDeclaration = TheReactiveScopeDeclaration

abbrev pub ReactiveScopeDependency : Type 0
ReactiveScopeDependency = TheReactiveScopeDependency

abbrev pub ReactiveScopeEarlyReturn : Type 0
ReactiveScopeEarlyReturn = TheReactiveScopeEarlyReturn

abbrev pub Case : Type 0
Case = TheCase

abbrev pub GotoVariant : Type 0
GotoVariant = TheGotoVariant

abbrev pub Terminal : Type 0
Terminal = TheTerminal

abbrev pub HirType : Type 0
HirType = TheHirType

abbrev pub Shape : Type 0
Shape = TheShape

abbrev pub ShapeRow : Type 0
ShapeRow = TheShapeRow
