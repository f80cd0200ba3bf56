mod ChainTexts
mod DepartureTexts
