mod AdmittedWay
mod Sheeting
mod SheetExamples
